use Rattle.std.proofs.Common.{◌≡◌, ℕ, ◌/◌, ◌^◌, ◌<◌, ◌≤◌, List}
use Rattle.guest_machine.specs.State.{State}
use Rattle.guest_machine.specs.Run.{pre, post}
use Rattle.guest_machine.specs.Shows.{Shows}
use Rattle.run_values.specs.declared.alteration.Alteration.{Alteration}
use Rattle.checkpoints.specs.Marks.{NoneBetween}
use Rattle.checkpoints.specs.Words.{IsWordIn, IsPlaced}
use Rattle.checkpoints.specs.Entries.{ranges_of, entry_of, below, IsClean}
use Rattle.checkpoints.specs.FirstUses.{uses_word, IsFirstBelow}
use Rattle.checkpoints.proofs.running.run_uncounted.Given as goal

abbrev pub invariant-loop-k : goal.invariant-loop-k
invariant-loop-k l = record {
  marked : (start : State) (marks : List Alteration) → NoneBetween l.from l.end marks
      → Shows l.fn.machine (post start l.setup marks l.from) → l.k < l.end
      → Shows l.machine (post start l.setup marks l.k);
  shows : (start : State) (marks : List Alteration) → NoneBetween l.from l.end marks
      → Shows l.fn.machine (post start l.setup marks l.from) → l.from < l.k
      → Shows l.machine (pre start l.setup marks l.k);
  ranges : ranges_of l.uses ≡ ranges_of l.fn.uses;
  kept : (n w : ℕ) → n ≤ l.from → w < 2 ^ 30 → IsPlaced (ranges_of l.fn.uses) w
      → below n (entry_of l.uses w) ≡ below n (entry_of l.fn.uses w);
  clean : IsClean l.uses l.k;
  first : (start : State) (marks : List Alteration) → NoneBetween l.from l.end marks
      → Shows l.fn.machine (post start l.setup marks l.from) → (addr : ℕ) → IsWordIn (ranges_of l.fn.uses) addr
      → IsFirstBelow (uses_word start l.setup marks addr) l.from (below l.from (entry_of l.fn.uses (addr / 4)))
      → IsFirstBelow (uses_word start l.setup marks addr) l.k (below l.k (entry_of l.uses (addr / 4)));
}
