use Rattle.std.proofs.Common.{◌≡◌, ◌-◌, ◌*◌, None, ap, ap₂, sym, ◌∙◌}
use Rattle.sweep_plans.specs.Plans.{count, nth, place_behind, place_behind_words, place_by}
use Rattle.sweep_plans.specs.declared.plan.SweepPlace.TheVariants.{Word as WordAt}
use Rattle.sweep_plans.proofs.PlaceSteps.{none-found}
use Rattle.sweep_plans.proofs.plan.Plan.place_behind.Goals as goal

pub returns-in-Some : goal.returns-in-Some
unfolding place_behind
returns-in-Some c =
    let plan = c.args.self.now in
    ap (λ word. place_by (λ w. WordAt (4 * w)) word (place_behind_words plan (c.args.i - count plan.words)))
    (sym c.in-Some.is ∙ c.at.ensures.place)

pub returns : goal.returns
unfolding place_behind
returns c =
    let plan = c.args.self.now in
    let none : nth plan.words c.args.i ≡ None = none-found (nth plan.words c.args.i)
    (λ n e. c.in_default.not-Some n (c.at.ensures.place ∙ e)) in
    let before : c.saturating_sub.result ≡ c.args.i - count plan.words = c.saturating_sub.ensures
    ∙ ap (λ n. c.args.i - n) (c.from.ensures ∙ c.count.ensures) in
    c.place_behind_words.ensures
    ∙ sym (ap₂ (place_by (λ w. WordAt (4 * w))) none (ap (place_behind_words plan) (sym before)))
