use Rattle.std.proofs.Common.{◌-◌, ◌≡◌, ◌≤◌}
use Rattle.shadow_memory.specs.Changes.{copied_cell}
use Rattle.shadow_memory.specs.Memories.{cells_of}
use Rattle.shadow_memory.specs.Ranges.{changed_in}
use Rattle.shadow_memory.proofs.memory.Memory.copy_cells.Given as goal

abbrev pub invariant-loop-done : goal.invariant-loop-done
invariant-loop-done l = record {
  within : l.done ≤ l.len;
  cells : cells_of l.self ≡ changed_in (cells_of l.initial.self) l.to l.done
      (copied_cell (cells_of l.initial.self) l.from);
}

abbrev pub decreases-loop-done : goal.decreases-loop-done
decreases-loop-done l = l.len - l.done
