use Rattle.std.proofs.Common.{◌≡◌, ℕ, ◌+◌, ◌-◌, ◌<◌, ◌≤◌, min, max}
use Rattle.guest_machine.specs.State.{State}
use Rattle.guest_machine.specs.Run.{pre}
use Rattle.guest_machine.specs.Shows.{Shows}
use Rattle.checkpoints.specs.Marks.{NoneUntil}
use Rattle.checkpoints.specs.Searches.{Hits}
use Rattle.checkpoints.proofs.searches.next_from.Given as goal

abbrev pub invariant-loop-k : goal.invariant-loop-k
invariant-loop-k l = record {
  shows : (start : State) → Shows l.fn.machine (pre start l.setup l.marks l.from)
      → Shows l.machine (pre start l.setup l.marks l.k);
  none : NoneUntil l.k l.next l.marks;
  unhit : (start : State) → Shows l.fn.machine (pre start l.setup l.marks l.from)
      → (j : ℕ) → l.from ≤ j → j < l.k → Hits l.sought start l.setup l.marks j → ⊥;
  within : l.k ≤ max l.from l.end;
  meter : l.meter ≡ min (l.fn.meter + (l.k - l.from)) 18446744073709551615;
}
