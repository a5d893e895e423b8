use Rattle.std.proofs.Common.{◌≡◌, ◌+◌, ◌-◌, ℕ, ◌<◌, ◌≤◌, ◌^◌, cond, min}
use Rattle.checkpoints.specs.Words.{IsPlaced}
use Rattle.checkpoints.specs.Entries.{ranges_of, entry_of, IsClean}
use Rattle.checkpoints.proofs.WordSteps.{word_in}
use Rattle.checkpoints.proofs.uses.FirstUses.enter_words.Given as goal

abbrev pub invariant-loop-done : goal.invariant-loop-done
invariant-loop-done l = record {
  within : l.done ≤ l.words;
  ranges : ranges_of l.self ≡ ranges_of l.fn.self;
  clean : IsClean l.fn.self (l.step + 1) → IsClean l.self (l.step + 1);
  entries : (w : ℕ) → w < 2 ^ 30 → IsPlaced (ranges_of l.fn.self) w
      → entry_of l.self w ≡ cond (word_in l.first l.done w) (min (entry_of l.fn.self w) l.step) (entry_of l.fn.self w);
}

abbrev pub decreases-loop-done : goal.decreases-loop-done
decreases-loop-done l = l.words - l.done
