use Rattle.std.proofs.Common.{◌≡◌, vec_len}
use Rattle.shadow_memory.specs.Memories.{cells_of}
use Rattle.shadow_memory.proofs.memory.Memory.grow.Given as goal

abbrev pub invariant-loop-i : goal.invariant-loop-i
invariant-loop-i l = record {
  same : cells_of l.self ≡ cells_of l.initial.self;
  grown : vec_len l.self.tops ≡ l._i;
}
