use Rattle.std.proofs.Common.{◌≡◌, ◌-◌, ◌≤◌, length}
use Rattle.guest_machine.specs.State.{State}
use Rattle.guest_machine.specs.Run.{pre}
use Rattle.guest_machine.specs.Shows.{Shows}
use Rattle.checkpoints.specs.Extending.{Extends}
use Rattle.checkpoints.specs.Marks.{NoneUntil}
use Rattle.checkpoints.proofs.sides.enter_sides.Given as goal

abbrev pub invariant-loop-at : goal.invariant-loop-at
invariant-loop-at l = record {
  shows : (start : State) → Shows l.fn.machine (pre start l.setup l.marks l.from)
      → Shows l.machine (pre start l.setup l.marks l.at);
  none : NoneUntil l.at l.next l.marks;
  later : l.from ≤ l.at;
  within : l.at ≤ l.to;
  rows : length l.table.items ≡ length l.fn.table.items;
  extends : (start : State) → Shows l.fn.machine (pre start l.setup l.marks l.from)
      → Extends start l.setup l.marks l.from l.at l.fn.rows.first l.fn.rows.apart l.fn.table.items l.table.items;
}

abbrev pub decreases-loop-at : goal.decreases-loop-at
decreases-loop-at l = l.to - l.at
