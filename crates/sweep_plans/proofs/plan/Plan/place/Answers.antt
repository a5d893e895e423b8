use Rattle.std.proofs.Common.{◌≡◌, ◌-◌, None, ap, ap₂, sym, ◌∙◌}
use Rattle.sweep_plans.specs.Plans.{count, nth, place_at, place_behind, place_by}
use Rattle.sweep_plans.specs.declared.plan.SweepPlace.TheVariants.{Byte as ByteAt}
use Rattle.sweep_plans.proofs.PlaceSteps.{none-found}
use Rattle.sweep_plans.proofs.plan.Plan.place.Goals as goal

pub returns-in-Some : goal.returns-in-Some
unfolding place_at
returns-in-Some c =
    let plan = c.args.self.now in
    ap (λ byte. place_by ByteAt byte (place_behind plan (c.args.i - count plan.bytes))) (sym c.in-Some.is
    ∙ c.at.ensures.place)

pub returns : goal.returns
unfolding place_at
returns c =
    let plan = c.args.self.now in
    let none : nth plan.bytes c.args.i ≡ None = none-found (nth plan.bytes c.args.i)
    (λ n e. c.in_default.not-Some n (c.at.ensures.place ∙ e)) in
    let before : c.saturating_sub.result ≡ c.args.i - count plan.bytes = c.saturating_sub.ensures
    ∙ ap (λ n. c.args.i - n) (c.from.ensures ∙ c.count.ensures) in
    c.place_behind.ensures ∙ sym (ap₂ (place_by ByteAt) none (ap (place_behind plan) (sym before)))
