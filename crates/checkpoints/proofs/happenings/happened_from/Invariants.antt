use Rattle.std.proofs.Common.{◌≡◌, ◌<◌, ◌≤◌, length, max}
use Rattle.guest_machine.specs.State.{State}
use Rattle.guest_machine.specs.Run.{pre}
use Rattle.guest_machine.specs.Shows.{Shows}
use Rattle.checkpoints.specs.Happenings.{happened_between}
use Rattle.checkpoints.specs.Marks.{NoneUntil}
use Rattle.checkpoints.proofs.happenings.happened_from.Given as goal

abbrev pub invariant-loop-k : goal.invariant-loop-k
invariant-loop-k l = record {
  shows : (start : State) → Shows l.fn.machine (pre start l.setup l.marks l.from)
      → Shows l.machine (pre start l.setup l.marks l.k);
  none : NoneUntil l.k l.next l.marks;
  within : l.k ≤ max l.from l.to;
  few : length l.found.items < l.most;
  found : (start : State) → Shows l.fn.machine (pre start l.setup l.marks l.from)
      → l.found.items ≡ happened_between start l.setup l.marks l.from l.k;
}
