-- The number of bytes of an access, and the limit of its numbers.
use Rattle.std.specs.Prelude.{ℕ, ◌*◌, ◌^◌}
use Rattle.instructions.specs.declared.width.Width.{Width}
use Rattle.instructions.specs.declared.width.Width.TheVariants.{Byte, Half, Word}

abbrev pub width_len : Width → ℕ
width_len Byte = 1
width_len Half = 2
width_len Word = 4

-- the numbers of an access of this width are below this one
abbrev pub width_limit : Width → ℕ
width_limit width = 2 ^ (8 * width_len width)
