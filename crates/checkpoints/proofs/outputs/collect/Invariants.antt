use Rattle.std.proofs.Common.{◌≡◌, ◌≤◌, length}
use Rattle.guest_machine.specs.State.{State}
use Rattle.guest_machine.specs.Run.{pre}
use Rattle.guest_machine.specs.Shows.{Shows}
use Rattle.checkpoints.specs.Marks.{NoneUntil}
use Rattle.checkpoints.specs.Outputs.{part}
use Rattle.checkpoints.proofs.outputs.collect.Given as goal

abbrev pub invariant-loop-k : goal.invariant-loop-k
invariant-loop-k l = record {
  shows : (start : State) → Shows l.fn.machine (pre start l.setup l.marks l.from)
      → Shows l.machine (pre start l.setup l.marks l.k);
  none : NoneUntil l.k l.next l.marks;
  part : (start : State) → Shows l.fn.machine (pre start l.setup l.marks l.from)
      → length (pre start l.setup l.marks l.from).output ≤ l.fn.wanted.range.start
      → l.bytes.items ≡ part l.fn.wanted.range (pre start l.setup l.marks l.k).output;
}
