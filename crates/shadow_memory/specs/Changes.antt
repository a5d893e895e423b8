-- What each call of a memory does to the cells of its range.
use Rattle.std.specs.Prelude.{ℕ, List, length, slice_index, ◌+◌, ◌-◌, ◌<◌, ◌≡◌, ◌⊎◌, true, false, if◌then◌else◌}
use Rattle.shadow_memory.specs.Cells.{shadow_in}
use Rattle.shadow_memory.specs.Marks.{marked, mark_of}
use Rattle.shadow_memory.specs.Places.{is_between}
use Rattle.shadow_memory.specs.Ranges.{above, byte_of, is_in}
use Rattle.shadow_memory.specs.Shadows.{loaded_undef}
use Rattle.shadow_memory.specs.declared.cells.Cell.{Cell}
use Rattle.shadow_memory.specs.declared.cells.RangeKind.{RangeKind}
use Rattle.definedness.specs.declared.Bits.{Bits}

-- an access has 1, 2 or 4 bytes
abbrev pub IsWidth : ℕ → Type 0
IsWidth n = (n ≡ 1) ⊎ ((n ≡ 2) ⊎ (n ≡ 4))

-- a front of n places, fewer than all of them, for which this holds
abbrev pub SomeFront : ℕ → (ℕ → Type 0) → Type 0
SomeFront n P = (k : ℕ) × (k < n) × P k

-- a cell that gets byte i of a number with undefined bits: an inaccessible one takes the byte and stays inaccessible
abbrev pub stored : Bits → ℕ → Cell → Cell
stored bits i cell = record {
  byte = byte_of bits.value i;
  accessible = cell.accessible;
  undef = if cell.accessible
      then byte_of bits.undef i else cell.undef;
}

-- and one that gets a byte all of whose bits are defined
abbrev pub received : (ℕ → ℕ) → ℕ → Cell → Cell
received bytes i cell = record {
  byte = bytes i;
  accessible = cell.accessible;
  undef = if cell.accessible then 0
      else cell.undef;
}

-- a cell of a range that gets a kind: its byte stays
abbrev pub ranged : RangeKind → ℕ → Cell → Cell
ranged kind i cell = marked cell.byte (mark_of kind)

-- a cell that is made accessible and defined, with a byte
abbrev pub filled : (ℕ → ℕ) → ℕ → Cell → Cell
filled bytes i cell = record { byte = bytes i; accessible = true; undef = 0 }

-- a cell that takes over what another is loaded as: an inaccessible one takes the byte and stays inaccessible
abbrev pub taken_cell : Cell → Cell → Cell
taken_cell source cell = record {
  byte = source.byte;
  accessible = cell.accessible;
  undef = if cell.accessible
      then loaded_undef (shadow_in source) else cell.undef;
}

-- and one that takes over the byte i above an address
abbrev pub copied_cell : (ℕ → Cell) → ℕ → ℕ → Cell → Cell
copied_cell cells from i cell = taken_cell (cells (above from i)) cell

-- none of n bytes from one address on is among the n from another on
abbrev pub AreApart : ℕ → ℕ → ℕ → Type 0
AreApart from to n = (i : ℕ) → i < n → is_in to n (above from i) ≡ false

-- bytes, with others written over them from a place on
abbrev pub overwritten : List ℕ → ℕ → List ℕ → ℕ → ℕ
overwritten bytes at made k =
    if is_between at (at + length made) k then slice_index made (k - at) else slice_index bytes k
