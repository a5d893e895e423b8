use Rattle.std.proofs.Common.{◌-◌, ◌≤◌, []}
use Rattle.guest_machine.specs.Run.{pre}
use Rattle.guest_machine.specs.Shows.{Shows}
use Rattle.guest_machine.specs.State.{State}
use Rattle.pruning.proofs.course.Course.run.Given as goal

abbrev pub invariant-loop-look : goal.invariant-loop-look
invariant-loop-look l = record {
  later : l.fn.step ≤ l.step;
  within : l.step ≤ l.last;
  shows : (s : State) → Shows l.fn.machine s → Shows l.machine (pre s l.setup [] (l.step - l.fn.step));
}
