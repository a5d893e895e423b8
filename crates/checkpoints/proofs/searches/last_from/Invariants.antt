use Rattle.std.proofs.Common.{◌≡◌, ◌+◌, ◌-◌, min}
use Rattle.guest_machine.specs.State.{State}
use Rattle.guest_machine.specs.Run.{pre}
use Rattle.guest_machine.specs.Shows.{Shows}
use Rattle.checkpoints.specs.Marks.{NoneUntil}
use Rattle.checkpoints.specs.Searches.{Hits, IsLast}
use Rattle.checkpoints.proofs.searches.last_from.Given as goal

abbrev pub invariant-loop-k : goal.invariant-loop-k
invariant-loop-k l = record {
  shows : (start : State) → Shows l.fn.machine (pre start l.setup l.marks l.from)
      → Shows l.machine (pre start l.setup l.marks l.k);
  none : NoneUntil l.k l.next l.marks;
  last : (start : State) → Shows l.fn.machine (pre start l.setup l.marks l.from)
      → IsLast (Hits l.sought start l.setup l.marks) l.from l.k l.last;
  meter : l.meter ≡ min (l.fn.meter + (l.k - l.from)) 18446744073709551615;
}
