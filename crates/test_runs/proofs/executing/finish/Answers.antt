use Rattle.std.proofs.Common.{◌≡◌, ◌&&◌, ◌∙◌, ◌≤◌, ◌∷◌, [], Bool, ℕ, List, ap, cond, length, not, refl, subst, sym}
use Rattle.std.proofs.Common.{take}
use Rattle.std.proofs.KnownBytes.{Appends-nil}
use Rattle.std.specs.Io.KnownBytes.{Appends}
use Rattle.guest_machine.specs.Shows.{Shows}
use Rattle.guest_machine.specs.declared.machine.Machine.{Machine}
use Rattle.scenario.specs.Scenario.{chosen_state}
use Rattle.test_runs.specs.Executions.{is_open_at, machine_of, state_at}
use Rattle.test_runs.specs.Executed.{IsOutcome, ends_line, left_open}
use Rattle.test_runs.proofs.Runs.{chosen-is, no-memory}
use Rattle.test_runs.proofs.executing.finish.Goals as goal

pub returns-in_default : goal.returns-in_default
returns-in_default g c =
    no-memory c.args.plan c.args.scenario.now c.args.ended (g.E.Write.contents c.args.err.now)
    (g.L.Write.contents c.args.log.now)

pub returns-in_default-outcome_of : goal.returns-in_default-outcome_of
returns-in_default-outcome_of g c =
    no-memory c.args.plan c.args.scenario.now c.args.ended (g.E.Write.contents c.args.err.now)
    (g.L.Write.contents c.args.log.now)

pub returns-then-not-end_line : goal.returns-then-not-end_line
returns-then-not-end_line g c =
    let cut = c.end_line.ensures.cut c.if-not-end_line.true in
    (take cut.0 (10 ∷ []), cut.1, (cut.0, refl, Appends-nil (g.L.Write.contents c.args.log.now)))

pub returns-then-send : goal.returns-then-send
returns-then-send g c =
    let sc = c.args.scenario.now in
    let plan = c.args.plan in
    let text = c.in-Ok.text.items in
    let last = ap (state_at sc) c.requires.last ∙ sym (chosen-is sc c.requires.marks) in
    let shown = subst (λ (m : Machine). Shows m (chosen_state sc)) (sym c.machine.ensures)
    (subst (Shows (machine_of c.args.execution.now)) last c.requires.at.shows) in
    let opened : c.is_open-was_open.result ≡ is_open_at sc sc.step = c.is_open-was_open.ensures ∙ c.requires.at.line
    ∙ ap (is_open_at sc) c.requires.last in
    let ends : c.ends_line-ends.result ≡ ends_line plan (is_open_at sc sc.step) text = c.ends_line-ends.ensures
    ∙ (λ i. ends_line plan (opened i) (c.deref.ensures.value i)) in
    let left : c.stays_open-is_open.result ≡ left_open plan sc text = c.stays_open-is_open.ensures
    ∙ (λ i. opened i && not (ends i)) in (
      cond c.ends_line-ends.result (10 ∷ []) [],
      c.end_line.ensures.whole c.if-not-end_line.false,
      (
        refl,
        text,
        c.in-Ok.ensures shown,
        subst (λ (left : Bool). IsOutcome sc c.args.ended plan left c.in-Ok-outcome_of.outcome) left
            c.in-Ok-outcome_of.ensures,
        ap (λ b. cond b (10 ∷ []) []) ends,
        subst (λ (text : List ℕ). Appends (g.L.Write.contents c.args.log.now) (g.L.Write.contents c.send.new.writer)
            text) c.deref-2.ensures.value (c.send.ensures.whole c.if-send.true),
      ),
    )

pub returns : goal.returns
returns g c =
    let sc = c.args.scenario.now in
    let plan = c.args.plan in
    let text = c.in-Ok.text.items in
    let last = ap (state_at sc) c.requires.last ∙ sym (chosen-is sc c.requires.marks) in
    let shown = subst (λ (m : Machine). Shows m (chosen_state sc)) (sym c.machine.ensures)
    (subst (Shows (machine_of c.args.execution.now)) last c.requires.at.shows) in
    let opened : c.is_open-was_open.result ≡ is_open_at sc sc.step = c.is_open-was_open.ensures ∙ c.requires.at.line
    ∙ ap (is_open_at sc) c.requires.last in
    let ends : c.ends_line-ends.result ≡ ends_line plan (is_open_at sc sc.step) text = c.ends_line-ends.ensures
    ∙ (λ i. ends_line plan (opened i) (c.deref.ensures.value i)) in (
      cond c.ends_line-ends.result (10 ∷ []) [],
      c.end_line.ensures.whole c.if-not-end_line.false,
      (
        refl,
        text,
        c.send.result.taken,
        c.in-Ok.ensures shown,
        subst (λ (text : List ℕ). c.send.result.taken ≤ length text) c.deref-2.ensures.value c.send.ensures.within,
        ap (λ b. cond b (10 ∷ []) []) ends,
        subst (λ (text : List ℕ). Appends (g.L.Write.contents c.args.log.now) (g.L.Write.contents c.send.new.writer)
            (take c.send.result.taken text)) c.deref-2.ensures.value c.send.ensures.sent,
      ),
    )
