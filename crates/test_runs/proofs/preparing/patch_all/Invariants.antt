use Rattle.std.proofs.Common.{length}
use Rattle.exit_status.specs.declared.exec_ends.ExecEnd.{ExecEnd}
use Rattle.scenario.specs.Scenario.{Scenario}
use Rattle.texts.specs.Parts.{parts}
use Rattle.test_runs.specs.Prepared.{KeepsRun, IsPatched, NoPatch}
use Rattle.test_runs.proofs.preparing.patch_all.Given as goal

abbrev pub invariant-loop-text : goal.invariant-loop-text
invariant-loop-text l = record {
  rest : (done : Scenario) → IsPatched l.texts l.scenario done → IsPatched (parts 44 l.list) l.fn.scenario done;
  fails :
      (end : ExecEnd) → NoPatch l.list l.texts l.scenario end → NoPatch l.list (parts 44 l.list) l.fn.scenario end;
  kept : KeepsRun l.fn.scenario l.scenario;
}

abbrev pub decreases-loop-text : goal.decreases-loop-text
decreases-loop-text l = length l.texts
