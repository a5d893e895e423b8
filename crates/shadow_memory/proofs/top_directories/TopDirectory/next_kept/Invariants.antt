use Rattle.std.proofs.Common.{◌≡◌, ℕ, ◌-◌, ◌<◌, ◌≤◌, slice_index_or}
use Rattle.shadow_memory.specs.declared.directory_slots.DirectorySlot.TheVariants.{Blank}
use Rattle.shadow_memory.proofs.top_directories.TopDirectory.next_kept.Given as goal

abbrev pub invariant-loop-directory : goal.invariant-loop-directory
invariant-loop-directory l = record {
  start : l.first ≤ l.directory;
  within : l.directory ≤ 32;
  blanks : (k : ℕ) → l.first ≤ k → k < l.directory → slice_index_or l.self.directories.items k Blank ≡ Blank;
}

abbrev pub decreases-loop-directory : goal.decreases-loop-directory
decreases-loop-directory l = 32 - l.directory
