use Rattle.std.proofs.Common.{◌≡◌}
use Rattle.shadow_memory.specs.Changes.{stored}
use Rattle.shadow_memory.specs.Memories.{cells_of}
use Rattle.shadow_memory.specs.Ranges.{changed_in}
use Rattle.shadow_memory.proofs.memory.Memory.store_cells.Given as goal

abbrev pub invariant-loop-i : goal.invariant-loop-i
invariant-loop-i l = cells_of l.self ≡ changed_in (cells_of l.initial.self) l.addr l.i (stored l.bits)
