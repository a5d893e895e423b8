use Rattle.std.proofs.Common.{◌≡◌, ℕ, ◌<◌}
use Rattle.shadow_memory.specs.Ranges.{above}
use Rattle.shadow_memory.specs.Memories.{shadows_in}
use Rattle.checkpoints.proofs.searches.differs_in.Given as goal

abbrev pub invariant-loop-i : goal.invariant-loop-i
invariant-loop-i l = record {
  alike : (j : ℕ) → j < l.i → shadows_in l.before (above l.range.start j) ≡ shadows_in l.after (above l.range.start j);
}
