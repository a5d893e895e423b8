-- What is known of places, by sizes.
use Rattle.std.specs.Prelude.{ℕ, ◌≡◌, ◌≤◌, ◌<◌, ◌⊎◌, nat_lt, nat_le, min}
use Rattle.std.specs.Prelude.{max, List, [], Some, map, slice_get}
use Rattle.std.specs.Prelude.{◌&&◌, if◌then◌else◌}
use Rattle.guest_heap.specs.Blocks.{Blocks}
use Rattle.guest_heap.specs.States.{AreNoPlaces}
use Rattle.guest_heap.specs.declared.bounds.Bound.{Bound}
use Rattle.guest_heap.specs.declared.bounds.Opened.{Opened}

-- a bound holds: no block of its size has a place below the first address, nor between the other two
pub record Holds (blocks : Blocks) (redzone : ℕ) (b : Bound) : Type 0 where
  pub below : AreNoPlaces blocks b.size redzone 0 b.from
  pub between : AreNoPlaces blocks b.size redzone b.next b.until

abbrev pub AreBounds : Blocks → ℕ → List Bound → Type 0
AreBounds blocks redzone bounds = (i : ℕ) (b : Bound) → slice_get bounds i ≡ Some b → Holds blocks redzone b

-- an address between these two
abbrev pub IsSkipped : Bound → ℕ → Type 0
IsSkipped b q = (b.next ≤ q) × (q < b.until)

-- bounds that say nothing
abbrev pub IsEmpty : Bound → Type 0
IsEmpty b = (b.from ≡ 0) × (b.until ≡ 0)

abbrev pub AreFresh : List Bound → Type 0
AreFresh bounds = (i : ℕ) (b : Bound) → slice_get bounds i ≡ Some b → IsEmpty b

-- the end of one of the bounds that hold for a size, or 0
abbrev pub IsKnown : List Bound → ℕ → ℕ → Type 0
IsKnown bounds size from =
    (from ≡ 0) ⊎ ((i : ℕ) × (b : Bound) × (slice_get bounds i ≡ Some b) × (b.size ≤ size) × (from ≡ b.from))

-- one of the bounds, for a size that isn't smaller, or one that says nothing
abbrev pub IsTaken : List Bound → Bound → Type 0
IsTaken bounds taken =
    (IsEmpty taken)
    ⊎ ((i : ℕ) × (b : Bound) × (slice_get bounds i ≡ Some b) × (b.size ≤ taken.size)
    × (taken.from ≡ b.from) × (taken.next ≡ b.next) × (taken.until ≡ b.until))

-- what stays of a bound after a range became free
abbrev pub lowered : Opened → Bound → Bound
lowered o b =
    if nat_lt o.room (max b.size 1) then b
    else if nat_le b.until b.from && nat_lt o.end b.from
    then record { size = b.size; from = min b.from o.first; next = o.end; until = b.from }
    else if nat_lt o.end b.until
    then record { size = b.size; from = min b.from o.first; next = max b.next o.end; until = b.until }
    else record { size = b.size; from = min b.from o.first; next = b.next; until = min b.until o.first }

-- a range became free, or there are no bounds any more
abbrev pub IsLowered : Opened → List Bound → List Bound → Type 0
IsLowered o old new = (new ≡ map (lowered o) old) ⊎ (new ≡ [])
