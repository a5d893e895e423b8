use Rattle.std.proofs.Common.{◌≡◌, length}
use Rattle.shadow_memory.specs.Memories.{bytes_in, shadows_in}
use Rattle.guest_machine.proofs.SameCodes.{AreFit}
use Rattle.guest_machine.proofs.fitting.fit_each.Given as goal

abbrev pub invariant-loop-place : goal.invariant-loop-place
invariant-loop-place l =
    (length l.entries.items ≡ length l.initial.entries.items)
    × AreFit (bytes_in l.memory) (bytes_in l.other) (shadows_in l.memory) l.len l.initial.entries.items
    l.entries.items l.place
