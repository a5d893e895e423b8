use Rattle.std.proofs.Common.{◌≡◌, ℕ, ◌+◌, ◌-◌, List}
use Rattle.scenario.specs.Scenario.{Scenario}
use Rattle.sweep_plans.specs.declared.change.Change.TheVariants.{Once}
use Rattle.sweep_plans.specs.declared.change.Glitch.TheVariants.{Skip}
use Rattle.sweeps.specs.Outcomes.{TakesSteps}
use Rattle.sweeps.specs.Standing.{pairs_from, skipped}
use Rattle.sweeps.specs.Sweeps.{CountsMore}
use Rattle.sweeps.specs.declared.counting.Counts.{Counts}
use Rattle.sweeps.proofs.pairs.try_rest.Given as goal

abbrev pub invariant-loop-later : goal.invariant-loop-later
invariant-loop-later l = record {
  recall : l.counts.recall ≡ l.fn.counts.recall;
  met : (sc : Scenario) (begun : Counts) (before : List ℕ) → l.scenario ≡ skipped sc l.fn.first.step
      → TakesSteps sc (Once l.fn.first.step Skip) l.fn.first.steps
      → CountsMore begun l.fn.counts l.fn.first.with_output sc
      (pairs_from sc l.fn.first.code l.fn.first.step (l.fn.from - (l.fn.first.step + 1))) before l.fn.out.items
      → CountsMore begun l.counts l.fn.first.with_output sc
      (pairs_from sc l.fn.first.code l.fn.first.step (l.later - (l.fn.first.step + 1))) before l.out.items;
}
