-- The range of a program's addresses of which sides are told.
use Rattle.std.specs.Prelude.{ℕ, ◌+◌, ◌-◌, ◌%◌, if◌then◌else◌, List, fold, length, min}
use Rattle.guest_elf.specs.Images.{entry_of, segments_of}
use Rattle.guest_elf.specs.Segments.{has_address}
use Rattle.guest_elf.specs.declared.image.Image.{Image}
use Rattle.guest_elf.specs.declared.segment.Segment.{Segment}
use Rattle.run_values.specs.declared.span.Span.{Span}

-- the greatest number of bytes of the range
abbrev pub longest_range : ℕ
longest_range = 4194304

-- from the multiple of four at which a segment begins or before that, as far as its bytes of the file go
abbrev pub range_in : Segment → Span
range_in segment = record {
  start = segment.vaddr - segment.vaddr % 4;
  len = min (segment.vaddr % 4 + length segment.bytes.now) longest_range;
}

-- that of the segment that has an address: no two of a program have the same
abbrev pub range_at : ℕ → List Segment → Span
range_at entry segments =
    fold (λ range (segment : Segment). if has_address segment entry then range_in segment else range)
    (record { start = 0; len = 0 }) segments

-- that of the segment in which a program begins
unfoldable pub range_of : Image → Span
range_of image = range_at (entry_of image) (segments_of image)
