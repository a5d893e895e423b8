-- An index of gaps by size: which parts of the heap's region are full, for which sizes.
use Rattle.std.specs.Prelude.{ℕ, ◌+◌, ◌≡◌, ◌≤◌, ◌<◌, ◌⊎◌, nat_lt, nat_le, min, max, List, [], Some, map}
use Rattle.std.specs.Prelude.{Bool, slice_get, ◌||◌, if◌then◌else◌}
use Rattle.guest_heap.specs.Blocks.{Blocks, IsPlace}
use Rattle.guest_heap.specs.States.{AreNoPlaces}
use Rattle.guest_heap.specs.Bounds.{AreBounds}
use Rattle.guest_heap.specs.declared.bounds.Bound.{Bound}
use Rattle.guest_heap.specs.declared.bounds.Opened.{Opened}
use Rattle.guest_heap.specs.declared.gaps.ranges.Full.{Full}
use Rattle.guest_heap.specs.declared.gaps.row.GapRow.{GapRow}

-- a range is full: no block of its size has a place in it
abbrev pub IsFull : Blocks → ℕ → Full → Type 0
IsFull blocks redzone f = AreNoPlaces blocks f.size redzone f.from f.until

-- each part is full, as far as it lies in the row
abbrev pub AreFullIn : Blocks → ℕ → Full → List Full → Type 0
AreFullIn blocks redzone whole parts =
    (i : ℕ) (f : Full) → slice_get parts i ≡ Some f
    → AreNoPlaces blocks f.size redzone (max whole.from f.from) (min whole.until f.until)

pub record IsGapRow (blocks : Blocks) (redzone : ℕ) (row : GapRow) : Type 0 where
  pub whole : IsFull blocks redzone row.whole
  pub parts : AreFullIn blocks redzone row.whole row.parts

abbrev pub AreGaps : Blocks → ℕ → List GapRow → Type 0
AreGaps blocks redzone rows = (i : ℕ) (row : GapRow) → slice_get rows i ≡ Some row → IsGapRow blocks redzone row

-- what a heap knows of its places: the bounds of classes, and the index of gaps
pub record AreKnown (blocks : Blocks) (redzone : ℕ) (bounds : List Bound) (rows : List GapRow) : Type 0 where
  pub by_class : AreBounds blocks redzone bounds
  pub by_part : AreGaps blocks redzone rows

-- a range that says nothing
abbrev pub SaysNothing : Full → Type 0
SaysNothing f = f.until ≡ 0

-- each range afterwards is one from before, a given one, or one that says nothing
abbrev pub IsPut : Full → List Full → List Full → Type 0
IsPut range old new =
    (i : ℕ) (f : Full) → slice_get new i ≡ Some f
    → (f ≡ range) ⊎ SaysNothing f ⊎ ((j : ℕ) × (slice_get old j ≡ Some f))

-- rows of which nothing is known: no block of 16,777,217 bytes has a place
abbrev pub AreUnknown : List GapRow → Type 0
AreUnknown rows =
    (i : ℕ) (row : GapRow) → slice_get rows i ≡ Some row → (row.whole.size ≡ 16777217) × (row.parts ≡ [])

-- each place that comes lies in the range that became free, and the block that has it fits into the room
abbrev pub Opens : Opened → ℕ → Blocks → Blocks → Type 0
Opens o redzone old new =
    (size q : ℕ) → IsPlace new size redzone q → ¬ (IsPlace old size redzone q)
    → (o.first ≤ q) × (q < o.end) × (max size 1 ≤ o.room)

-- two ranges of addresses that don't meet
abbrev pub lies_apart : Opened → Full → Bool
lies_apart o f = nat_le o.end f.from || nat_le f.until o.first

-- a full range, after a range became free: if they meet, a size that fits into neither
abbrev pub raised : Opened → Full → Full
raised o f = record {
  size = if lies_apart o f || nat_lt o.room (max f.size 1) then f.size else min o.room 16777216 + 1;
  from = f.from;
  until = f.until;
}

-- a row that lies apart stays as it is
abbrev pub raised_row : Opened → GapRow → GapRow
raised_row o row =
    if lies_apart o row.whole then row
    else record { whole = raised o row.whole; parts = map (raised o) row.parts }

-- the index takes account of a range that became free, or there is none any more
abbrev pub IsRaised : Opened → List GapRow → List GapRow → Type 0
IsRaised o old new = (new ≡ map (raised_row o) old) ⊎ (new ≡ [])
