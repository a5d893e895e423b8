use Rattle.std.proofs.Common.{◌≡◌, ◌++◌, ℕ, List, length}
use Rattle.shadow_memory.specs.Memories.{bytes_in}
use Rattle.shadow_memory.specs.Ranges.{window}
use Rattle.guest_machine.specs.Calls.{bytes_taken}
use Rattle.checkpoints.specs.Outputs.{part}
use Rattle.checkpoints.proofs.outputs.push_piece.Given as goal

abbrev pub invariant-loop-i : goal.invariant-loop-i
invariant-loop-i l =
    (xs : List ℕ) → l.written ≡ length xs → l.fn.bytes.items ≡ part l.range xs
    → l.bytes.items ≡ part l.range (xs ++ bytes_taken (window (bytes_in l.memory) l.piece.start l.piece.len) l.i)
