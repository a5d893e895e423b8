use Rattle.std.proofs.Common.{◌≡◌, ◌-◌, ◌<◌, ◌≤◌, List, length}
use Rattle.guest_machine.specs.State.{State}
use Rattle.guest_machine.specs.Run.{pre, post}
use Rattle.guest_machine.specs.Shows.{Shows}
use Rattle.run_values.specs.declared.alteration.Alteration.{Alteration}
use Rattle.checkpoints.specs.Extending.{Extends}
use Rattle.checkpoints.specs.Marks.{NoneBetween}
use Rattle.checkpoints.proofs.straight.pass_words.Given as goal

abbrev pub invariant-loop-at : goal.invariant-loop-at
invariant-loop-at l = record {
  later : l.from ≤ l.at;
  within : l.at ≤ l.end;
  marked : (start : State) (marks : List Alteration) → NoneBetween l.from l.end marks
      → Shows l.fn.machine (post start l.setup marks l.from) → l.at < l.end
      → Shows l.machine (post start l.setup marks l.at);
  shows : (start : State) (marks : List Alteration) → NoneBetween l.from l.end marks
      → Shows l.fn.machine (post start l.setup marks l.from) → l.from < l.at
      → Shows l.machine (pre start l.setup marks l.at);
  rows : length l.table.items ≡ length l.fn.table.items;
  extends : (start : State) (marks : List Alteration) → NoneBetween l.from l.end marks
      → Shows l.fn.machine (post start l.setup marks l.from)
      → Extends start l.setup marks l.from l.at l.first 4 l.fn.table.items l.table.items;
}

abbrev pub decreases-loop-at : goal.decreases-loop-at
decreases-loop-at l = l.end - l.at
