use Rattle.std.proofs.Common.{◌++◌, ◌∙◌}
use Rattle.sweep_plans.specs.declared.change.Change.TheVariants.{Twice}
use Rattle.sweep_plans.specs.declared.change.Glitch.TheVariants.{Skip}
use Rattle.sweeps.specs.Outcomes.{Met, IsOutcome, TakesSteps}
use Rattle.sweeps.specs.Tables.{met_text}
use Rattle.sweeps.proofs.Steps.{counted-more, counts-one}
use Rattle.sweeps.proofs.pairs.count_pair.Goals as goal

pub returns-clause-met : goal.returns-clause-met
unfolding IsOutcome TakesSteps
returns-clause-met c sc outcome takes =
    let wo = c.args.first.with_output in
    let m : Met = record {
      change = Twice c.args.first.step Skip c.args.later Skip;
      outcome = c.args.outcome.now;
      steps = c.args.first.steps;
    } in
    counts-one wo sc c.args.counts.now c.count.new.self m c.args.out.now.items c.count.new.out.items
    (λ first met h. counted-more wo sc first met m c.args.counts.now c.count.new.self h outcome takes
    c.in_ok-count.ensures.entries c.in_ok-count.ensures.edits c.in_ok-count.ensures.steps c.in_ok-count.ensures.recall)
    (λ first met h. c.in_ok-count.ensures.text ∙ (λ i. c.args.out.now.items
    ++ met_text (h.tallies i) m.change c.args.outcome.now))
