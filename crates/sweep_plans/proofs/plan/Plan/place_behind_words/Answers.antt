use Rattle.std.proofs.Common.{◌≡◌, ◌-◌, ap, length, rules, sym, unwrap_or, ◌∙◌, arith, slice_get}
use Rattle.std.proofs.lemmas.Option.{unwrap_or-slice_get}
use Rattle.std.specs.Prelude.{vec_len}
use Rattle.sweep_plans.specs.Plans.{nth, place_behind_words, step_place}
use Rattle.sweep_plans.proofs.CodeSteps.{nothing-there}
use Rattle.sweep_plans.proofs.plan.Plan.place_behind_words.Goals as goal

pub returns-in-Some : goal.returns-in-Some
unfolding place_behind_words
returns-in-Some c =
    let plan = c.args.self.now in
    let i = c.args.i in
    let step = step_place (nth plan.steps (i - length plan.instructions.items)) in
    c.in-Some.ensures.lookup.4 (omega arith) step
    ∙ sym (unwrap_or-slice_get c.deref.result.now i step)
    ∙ ap (λ list. unwrap_or (slice_get list i) step) c.deref.ensures.value

pub returns-in-Some-at : goal.returns-in-Some-at
unfolding place_behind_words
returns-in-Some-at c =
    let plan = c.args.self.now in
    let i = c.args.i in
    let step = step_place (nth plan.steps (i - length plan.instructions.items)) in
    let counted : vec_len plan.instructions ≡ length plan.instructions.items = search rules in
    let before = c.saturating_sub.ensures ∙ ap (λ n. i - n) (c.len.ensures ∙ counted) in
    ap step_place (sym c.in-Some-at.is ∙ c.at.ensures.place ∙ ap (nth plan.steps) before)
    ∙ sym (nothing-there (λ place. place.now) c.get.result step c.in_default.not-Some)
    ∙ c.get.ensures.lookup.4 (omega arith) step
    ∙ sym (unwrap_or-slice_get c.deref.result.now i step)
    ∙ ap (λ list. unwrap_or (slice_get list i) step) c.deref.ensures.value

pub returns-in-None : goal.returns-in-None
unfolding place_behind_words
returns-in-None c =
    let plan = c.args.self.now in
    let i = c.args.i in
    let step = step_place (nth plan.steps (i - length plan.instructions.items)) in
    let counted : vec_len plan.instructions ≡ length plan.instructions.items = search rules in
    let before = c.saturating_sub.ensures ∙ ap (λ n. i - n) (c.len.ensures ∙ counted) in
    ap step_place (sym c.in-None.is ∙ c.at.ensures.place ∙ ap (nth plan.steps) before)
    ∙ sym (nothing-there (λ place. place.now) c.get.result step c.in_default.not-Some)
    ∙ c.get.ensures.lookup.4 (omega arith) step
    ∙ sym (unwrap_or-slice_get c.deref.result.now i step)
    ∙ ap (λ list. unwrap_or (slice_get list i) step) c.deref.ensures.value
