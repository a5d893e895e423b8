use Rattle.std.proofs.Common.{◌≡◌, ℕ, ◌+◌, ◌-◌, ◌≤◌}
use Rattle.checkpoints.specs.Forks.{IsForkFor}
use Rattle.checkpoints.specs.declared.effect.Effect.TheVariants.{After}
use Rattle.scenario.specs.Scenario.{Scenario, run_of}
use Rattle.sweep_plans.specs.declared.change.Change.TheVariants.{Once}
use Rattle.sweep_plans.specs.declared.change.Glitch.TheVariants.{Skip}
use Rattle.sweeps.specs.Outcomes.{TakesSteps}
use Rattle.sweeps.specs.Standing.{pairs_from, skipped}
use Rattle.sweeps.specs.Sweeps.{CountsMore}
use Rattle.sweeps.proofs.pairs.try_until.Given as goal

abbrev pub invariant-loop-later : goal.invariant-loop-later
invariant-loop-later l = record {
  same : l.scenario ≡ l.fn.scenario;
  past : l.fn.first.step + 1 ≤ l.later;
  last_fork : (before : ℕ) × (l.later ≡ before + 1)
      × IsForkFor (After before) (run_of l.fn.scenario) l.fn.scenario.step l.last_fork;
  met : (sc : Scenario) → l.fn.scenario ≡ skipped sc l.fn.first.step
      → TakesSteps sc (Once l.fn.first.step Skip) l.fn.first.steps
      → CountsMore l.fn.counts l.counts l.fn.first.with_output sc
      (pairs_from sc l.fn.first.code l.fn.first.step (l.later - (l.fn.first.step + 1))) l.fn.out.items l.out.items;
}
