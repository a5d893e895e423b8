use Rattle.std.proofs.Common.{◌<◌, sym, subst}
use Rattle.std.proofs.lemmas.Result.{IfOk-weaker}
use Rattle.sweep_plans.specs.declared.change.Change.TheVariants.{Once}
use Rattle.sweeps.specs.Landmarks.{AreEnds}
use Rattle.sweeps.specs.Outcomes.{IsOutcome}
use Rattle.sweeps.specs.Recall.{IsRecalled, Passes}
use Rattle.sweeps.specs.Standing.{state_before}
use Rattle.sweeps.proofs.RecallSteps.{of-found}
use Rattle.sweeps.proofs.striking.outcome_at.Goals as goal

pub returns-in-Some-clause-outcome : goal.returns-in-Some-clause-outcome
returns-in-Some-clause-outcome c h =
    let sc = c.args.scenario.now in
    let wo = c.args.settings.with_output in
    let glitch = c.args.struck.glitch in
    let same = c.requires.here in
    let told = of-found (IsRecalled c.args.counts.now.recall glitch c.args.passing) c.in_ok-outcome.field-0
    c.in-Some.outcome c.in-Some.is c.in_ok-outcome.ensures in
    subst (λ k. IsOutcome wo sc (Once k glitch) c.in-Some.outcome) same
    (told wo sc c.requires.before.unmarked
    (subst (λ k. k < sc.step) (sym same) c.requires.before.below)
    (subst (λ k. Passes (state_before sc k) sc.setup glitch c.args.passing) (sym same) c.requires.passing) h)

pub returns-clause-outcome : goal.returns-clause-outcome
returns-clause-outcome c =
    let known = AreEnds c.args.settings.with_output c.args.scenario.now in
    IfOk-weaker c.outcome_of_glitch.result _ _
    (λ outcome told h. told (of-found known c.args.counts.now.recall.ends c.in-Some-ends.ends c.in-Some-ends.is h.ends))
    c.outcome_of_glitch.ensures.outcome
