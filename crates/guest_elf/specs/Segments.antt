-- What a list of segments holds at each address (System V ABI, edition 4.1, chapter 5, "Program Header").
use Rattle.std.specs.Prelude.{ℕ, Bool, ◌+◌, ◌-◌, ◌^◌, ◌≤◌, ◌&&◌, nat_le, nat_lt, if◌then◌else◌, List, [], ◌∷◌, length}
use Rattle.std.specs.Prelude.{slice_index, Option, Some, None}
use Rattle.std.specs.Option.{option_or}
use Rattle.guest_elf.specs.declared.segment.Segment.{Segment}

-- what a caller sees of a segment: its first address, its number of bytes in memory, and its bytes from the file
pub record SegmentContent : Type 0 where
  pub vaddr : ℕ
  pub memsz : ℕ
  pub bytes : List ℕ

unfoldable pub content_of : Segment → SegmentContent
content_of segment = record { vaddr = segment.vaddr; memsz = segment.memsz; bytes = segment.bytes.now }

-- an address is in a segment
abbrev pub has_address : Segment → ℕ → Bool
has_address segment address = nat_le segment.vaddr address && nat_lt address (segment.vaddr + segment.memsz)

-- the byte that a segment loads at an address: one of its bytes, or a zero after them (`slice_index`)
unfoldable pub loaded_by : Segment → ℕ → Option ℕ
loaded_by segment address =
    if has_address segment address
    then Some (slice_index segment.bytes.now (address - segment.vaddr))
    else None

-- the byte at an address, of the first segment that has the address
unfoldable pub loaded : List Segment → ℕ → Option ℕ
loaded [] address = None
loaded (segment ∷ segments) address = option_or (loaded_by segment address) (loaded segments address)

-- its addresses lie below 2^32, and it has no more bytes than addresses
pub record Fits (segment : Segment) : Type 0 where
  pub in_space : segment.vaddr + segment.memsz ≤ 2 ^ 32
  pub within : length segment.bytes.now ≤ segment.memsz
