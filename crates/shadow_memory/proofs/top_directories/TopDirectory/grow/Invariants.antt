use Rattle.std.proofs.Common.{◌≡◌, vec_len}
use Rattle.shadow_memory.specs.TopDirectories.{cells_on}
use Rattle.shadow_memory.proofs.top_directories.TopDirectory.grow.Given as goal

abbrev pub invariant-loop-i : goal.invariant-loop-i
invariant-loop-i l = record {
  same : cells_on l.self ≡ cells_on l.initial.self;
  grown : vec_len l.self.directories ≡ l._i;
}
