use Rattle.std.proofs.Common.{◌≡◌, ◌≤◌, length, drop}
use Rattle.shadow_memory.specs.Memories.{bytes_in, shadows_in}
use Rattle.guest_machine.specs.Loading.{loaded_bytes, loaded_shadows}
use Rattle.guest_machine.proofs.machine.between.load_segments.Given as goal

abbrev pub invariant-loop-left : goal.invariant-loop-left
invariant-loop-left l = record {
  within : l.left ≤ length l.segments;
  bytes : bytes_in l.memory ≡ loaded_bytes (drop l.left l.segments) (bytes_in l.initial.memory);
  shadows : shadows_in l.memory ≡ loaded_shadows (drop l.left l.segments) (shadows_in l.initial.memory);
}

abbrev pub decreases-loop-left : goal.decreases-loop-left
decreases-loop-left l = l.left
