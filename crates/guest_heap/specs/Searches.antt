-- Searches for the least place.
use Rattle.std.specs.Prelude.{ℕ, ◌+◌, ◌%◌, ◌<◌, ◌≤◌, ◌≡◌, max}
use Rattle.guest_heap.specs.Blocks.{Blocks, IsPlace, IsLeastPlace, Places}
use Rattle.guest_heap.specs.States.{AreNoPlaces}
use Rattle.guest_heap.specs.declared.heap.places.Search.{Search}
use Rattle.guest_heap.specs.declared.heap.places.Search.TheVariants.{Done, At}
use Rattle.guest_heap.specs.declared.heap.places.Look.{Look}
use Rattle.guest_heap.specs.declared.heap.places.Look.TheVariants.{Place, Room}

-- an address from which a search goes on: there is no place below it
pub record IsReached (blocks : Blocks) (size redzone at : ℕ) : Type 0 where
  pub multiple : at % 16 ≡ 0
  pub above : blocks.begin + redzone ≤ at
  pub below : at < 17179869184
  pub none : (q : ℕ) → q < at → ¬ (IsPlace blocks size redzone q)

abbrev pub Searched : Blocks → ℕ → ℕ → Search → Type 0
Searched blocks size redzone (Done place) = Places blocks size redzone place
Searched blocks size redzone (At at) = IsReached blocks size redzone at

-- a search that isn't done has come further
abbrev pub IsFurther : ℕ → Search → Type 0
IsFurther from (Done place) = Unit {0}
IsFurther from (At at) = from < at

-- no block that is greater than the room has a place from one address up to another; the room is too small for a size
pub record IsRoom (blocks : Blocks) (size redzone from until room : ℕ) : Type 0 where
  pub less : room < max size 1
  pub none : AreNoPlaces blocks (room + 1) redzone from until

abbrev pub Looked : Blocks → ℕ → ℕ → ℕ → ℕ → Look → Type 0
Looked blocks size redzone from until (Place p) = IsLeastPlace blocks size redzone p
Looked blocks size redzone from until (Room room) = IsRoom blocks size redzone from until room
