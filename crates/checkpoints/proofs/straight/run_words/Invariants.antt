use Rattle.std.proofs.Common.{◌*◌, ◌≡◌, ℕ, ◌+◌, ◌-◌, ◌<◌, ◌≤◌, List}
use Rattle.guest_machine.specs.State.{State}
use Rattle.guest_machine.specs.Run.{pre, post}
use Rattle.guest_machine.specs.Shows.{Shows}
use Rattle.run_values.specs.declared.alteration.Alteration.{Alteration}
use Rattle.checkpoints.specs.Extending.{GoesStraight}
use Rattle.checkpoints.specs.Marks.{NoneBetween}
use Rattle.checkpoints.proofs.straight.run_words.Given as goal

abbrev pub invariant-loop-left : goal.invariant-loop-left
invariant-loop-left l =
    let count = l.fits - l.left in
    record {
      there : (s : State) → Shows l.machine s → l.next ≡ s.core.pc;
      within : l.left ≤ l.fits;
      at : l.next ≡ l.pc + 4 * count;
      marked : (start : State) (marks : List Alteration) (from : ℕ) → NoneBetween from (from + l.most) marks
          → Shows l.fn.machine (post start l.setup marks from) → count < l.most
          → Shows l.machine (post start l.setup marks (from + count));
      shows : (start : State) (marks : List Alteration) (from : ℕ) → NoneBetween from (from + l.most) marks
          → Shows l.fn.machine (post start l.setup marks from) → 0 < count
          → Shows l.machine (pre start l.setup marks (from + count));
      straight : (start : State) (marks : List Alteration) (from : ℕ) → NoneBetween from (from + l.most) marks
          → Shows l.fn.machine (post start l.setup marks from)
          → GoesStraight start l.setup marks from l.pc 4 count;
    }

abbrev pub decreases-loop-left : goal.decreases-loop-left
decreases-loop-left l = l.left
