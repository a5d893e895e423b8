use Rattle.std.proofs.Common.{◌≡◌}
use Rattle.shadow_memory.specs.Memories.{bytes_in, shadows_in}
use Rattle.shadow_memory.specs.Ranges.{byte_of, written}
use Rattle.shadow_memory.proofs.memory.Memory.poke_bytes.Given as goal

abbrev pub invariant-loop-i : goal.invariant-loop-i
invariant-loop-i l = record {
  bytes : bytes_in l.self ≡ written (bytes_in l.initial.self) l.addr l.i (byte_of l.number);
  shadows : shadows_in l.self ≡ shadows_in l.initial.self;
}
