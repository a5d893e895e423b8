-- A mark as an alteration, and the bytes that an alteration writes.
use Rattle.std.specs.Prelude.{Option, Some, None}
use Rattle.instructions.specs.Widths.{width_len}
use Rattle.run_values.specs.declared.alteration.Act.{Act}
use Rattle.run_values.specs.declared.alteration.Act.TheVariants.{Make, Write, Turn}
use Rattle.run_values.specs.declared.alteration.Alteration.{Alteration}
use Rattle.run_values.specs.declared.mark.Mark.{Mark}
use Rattle.run_values.specs.declared.span.Span.{Span}

-- it makes the range of the mark
abbrev pub alteration_of : Mark → Alteration
alteration_of mark = record { step = mark.step; act = Make mark.addr mark.len mark.kind }

-- it makes a range
abbrev pub IsMake : Act → Type 0
IsMake (Make addr len kind) = Unit {0}
IsMake _ = ⊥

-- the range whose byte values it may change, if there is one
abbrev pub writes_of : Act → Option Span
writes_of (Write addr width value) = Some (record { start = addr; len = width_len width })
writes_of (Turn addr mask) = Some (record { start = addr; len = 4 })
writes_of _ = None
