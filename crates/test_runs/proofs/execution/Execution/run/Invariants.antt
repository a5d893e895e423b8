use Rattle.std.proofs.Common.{◌-◌, ◌≤◌}
use Rattle.test_runs.specs.Executions.{held, step_of, IsAt, LeavesEnd, Wrote}
use Rattle.test_runs.proofs.execution.Execution.run.Given as goal

abbrev pub invariant-loop-execution : goal.invariant-loop-execution
invariant-loop-execution g l = record {
  at : IsAt l.execution l.scenario;
  within : step_of l.execution ≤ l.scenario.step;
  unseen : LeavesEnd l.scenario l.waits (step_of l.fn.self) (step_of l.execution);
  wrote : Wrote l.scenario (step_of l.fn.self) (step_of l.execution)
      (held (g.O.Write.contents l.fn.streams.out) (g.E.Write.contents l.fn.streams.err))
      (held (g.O.Write.contents l.streams.out) (g.E.Write.contents l.streams.err));
}

abbrev pub decreases-loop-execution : goal.decreases-loop-execution
decreases-loop-execution g l = l.scenario.step - step_of l.execution
