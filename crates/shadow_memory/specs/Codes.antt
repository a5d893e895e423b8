-- The number of each byte of a page.
use Rattle.std.specs.Prelude.{ℕ, ◌/◌, ◌%◌, slice_index}
use Rattle.shadow_memory.specs.Parts.{part_of}
use Rattle.shadow_memory.specs.declared.codes.Codes.{Codes}

unfoldable pub code_at : Codes → ℕ → ℕ
code_at codes at = part_of (slice_index codes.packed.items (at / 4)) (at % 4)
