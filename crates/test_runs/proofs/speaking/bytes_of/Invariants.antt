use Rattle.shadow_memory.specs.Memories.{bytes_in}
use Rattle.shadow_memory.specs.Ranges.{window}
use Rattle.guest_machine.specs.Calls.{bytes_taken}
use Rattle.test_runs.proofs.speaking.bytes_of.Given as goal
use Rattle.std.proofs.Common.{◌≡◌}

abbrev pub invariant-loop-i : goal.invariant-loop-i
invariant-loop-i l = record {
  bytes : l.bytes.items ≡ bytes_taken (window (bytes_in l.memory) l.range.start l.range.len) l.i;
}
