-- Parameters tested one after another.
use Rattle.std.proofs.Common.{◌≡◌, ℕ, suc, ap, sym, ◌∙◌, ◌+◌, ◌<◌, ◌≤◌, Bool, List, ◌∷◌, length, drop, drop-cons}
use Rattle.std.proofs.Common.{get_or, arith}
use Rattle.std.proofs.lemmas.List.{at_drop_all}
use Rattle.error_events.specs.declared.event.Group.{Group}
use Rattle.error_events.specs.declared.parameter.Parameter.{Parameter}
use Rattle.guest_machine.specs.State.{Core}
use Rattle.guest_machine.specs.Registers.{tested}
use Rattle.guest_machine.specs.Doing.{note_events}
use Rattle.guest_machine.specs.Errors.{parameter_errors}
use Rattle.guest_machine.specs.Calls.{tested_from, errors_from}
use Rattle.guest_machine.proofs.Showing.{note_events_append}

-- the rest of the list, with another parameter
rest : (ps : List Parameter) (i : ℕ) (p : Parameter) → i < length ps → drop i ps ≡ get_or ps i p ∷ drop (i + 1) ps
rest ps i p within =
    let next : suc i ≡ i + 1 = omega arith in drop-cons ps i p within ∙ ap (λ n. get_or ps i p ∷ drop n ps) next

-- another one is tested
pub tested-step : (old new : Core) (s r i : ℕ) (p : Parameter) (ps : List Parameter) → i < length ps → s ≡ r
    → new ≡ tested old s
    → tested_from new (r + 1) (drop (i + 1) ps) ≡ tested_from old r (drop i ps)
unfolding tested_from
tested-step old new s r i p ps within same is =
    ap (λ core. tested_from core (r + 1) (drop (i + 1) ps)) (is ∙ ap (tested old) same)
    ∙ ap (tested_from old r) (sym (rest ps i p within))

pub errors-step : (old new : Core) (gs hs : List Group × Bool) (s r i : ℕ) (p : Parameter) (ps : List Parameter)
    → i < length ps → s ≡ r → new ≡ tested old s
    → hs ≡ note_events gs (parameter_errors old s (get_or ps i p))
    → note_events hs (errors_from new (r + 1) (drop (i + 1) ps)) ≡ note_events gs (errors_from old r (drop i ps))
unfolding errors_from
errors-step old new gs hs s r i p ps within same is more =
    let now : new ≡ tested old r = is ∙ ap (tested old) same in
    let raised : hs ≡ note_events gs (parameter_errors old r (get_or ps i p)) = more
    ∙ ap (λ n. note_events gs (parameter_errors old n (get_or ps i p))) same in
    (λ j. note_events (raised j) (errors_from (now j) (r + 1) (drop (i + 1) ps)))
    ∙ sym (note_events_append gs (parameter_errors old r (get_or ps i p))
    (errors_from (tested old r) (r + 1) (drop (i + 1) ps)))
    ∙ ap (λ qs. note_events gs (errors_from old r qs)) (sym (rest ps i p within))

-- and none is left
pub tested-end : (core : Core) (r i : ℕ) (ps : List Parameter) → length ps ≤ i → core ≡ tested_from core r (drop i ps)
unfolding tested_from
tested-end core r i ps past = sym (at_drop_all (tested_from core r) ps i past)

pub errors-end : (core : Core) (gs : List Group × Bool) (r i : ℕ) (ps : List Parameter) → length ps ≤ i
    → gs ≡ note_events gs (errors_from core r (drop i ps))
unfolding errors_from note_events
errors-end core gs r i ps past = sym (at_drop_all (λ qs. note_events gs (errors_from core r qs)) ps i past)
