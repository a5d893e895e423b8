use Rattle.std.proofs.Common.{◌≡◌, ◌-◌}
use Rattle.test_runs.specs.Executions.{held, step_of}
use Rattle.test_runs.proofs.Looks.{Comes}
use Rattle.test_runs.proofs.watching.watch.Given as goal

abbrev pub invariant-loop-ended : goal.invariant-loop-ended
invariant-loop-ended g l = record {
  same : l.scenario ≡ l.fn.scenario;
  comes : Comes l.scenario l.bounds.waits (step_of l.fn.execution)
      (held (g.O.Write.contents l.fn.streams.out) (g.E.Write.contents l.fn.streams.err))
      (held (g.O.Write.contents l.streams.out) (g.E.Write.contents l.streams.err)) l.execution;
}

abbrev pub decreases-loop-ended : goal.decreases-loop-ended
decreases-loop-ended g l = l.scenario.step - step_of l.execution
