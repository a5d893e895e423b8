use Rattle.std.proofs.Common.{◌-◌, ◌+◌, ◌≤◌}
use Rattle.shadow_memory.specs.Comparisons.{HaveBytesOf}
use Rattle.shadow_memory.specs.Memories.{cells_of}
use Rattle.shadow_memory.proofs.memory.Memory.has_bytes_of.Given as goal

abbrev pub invariant-loop-done : goal.invariant-loop-done
invariant-loop-done l = record {
  within : l.done ≤ l.len;
  bytes : HaveBytesOf (cells_of l.self) (cells_of l.other) l.from (l.from + l.done);
}

abbrev pub decreases-loop-done : goal.decreases-loop-done
decreases-loop-done l = l.len - l.done
