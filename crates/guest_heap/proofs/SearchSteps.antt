-- Searches for the least place, from block to block and from part to part.
use Rattle.std.proofs.Common.{◌≡◌, ℕ, ◌+◌, ◌-◌, ◌%◌, ◌<◌, ◌≤◌, inl, inr, max, arith}
use Rattle.std.proofs.lemmas.Bool.{cases_lt}
use Rattle.call_stacks.specs.declared.block.Block.{Block}
use Rattle.guest_heap.specs.Blocks.{Blocks, IsKept, IsPlace, low_end, high_end, end_of}
use Rattle.guest_heap.specs.States.{AreNoPlaces}
use Rattle.guest_heap.proofs.NoPlaces.{skipped_too}
use Rattle.guest_heap.proofs.PlaceSteps.{two_multiples}

-- a kept block that is met rules out the places up to its end, for each block that doesn't fit before it
pub room_passed : (blocks : Blocks) (redzone from at next room wider : ℕ) (b : Block) → at % 16 ≡ 0
    → AreNoPlaces blocks (room + 1) redzone from at → IsKept blocks b → at - redzone < high_end b
    → room ≤ wider → low_end b - (at + redzone) ≤ wider → next % 16 ≡ 0 → next < high_end b + redzone + 16
    → AreNoPlaces blocks (wider + 1) redzone from next
room_passed blocks redzone from at next room wider b grid none kept past more fits even near q over less place =
    elim (cases_lt q at) [
      | inl lt ↦ skipped_too blocks (wider + 1) (room + 1) redzone from at none (omega (arith, more)) q over lt place
      | inr ge ↦
          (let gap : q + 16 ≤ next = two_multiples q next place.multiple even less in
          let low : q - redzone < high_end b = omega (arith, gap, near) in
          let high : low_end b < q + max (wider + 1) 1 + redzone = omega (arith, fits, ge) in
          place.apart b kept (low, high))
    ]

-- past the region's end no block fits that is greater than what is left
pub room_ended : (blocks : Blocks) (redzone from at until room wider : ℕ)
    → AreNoPlaces blocks (room + 1) redzone from at → room ≤ wider → end_of blocks - (at + redzone) ≤ wider
    → AreNoPlaces blocks (wider + 1) redzone from until
room_ended blocks redzone from at until room wider none more left q over less place =
    elim (cases_lt q at) [
      | inl lt ↦ skipped_too blocks (wider + 1) (room + 1) redzone from at none (omega (arith, more)) q over lt place
      | inr ge ↦ (let below = place.below in omega (arith, below, left, ge))
    ]

-- what is known for the room, for a size that doesn't fit into it
pub none_in_room : (blocks : Blocks) (size redzone from at room : ℕ)
    → ((q : ℕ) → q < from → ¬ (IsPlace blocks size redzone q)) → room < max size 1
    → AreNoPlaces blocks (room + 1) redzone from at → (q : ℕ) → q < at → ¬ (IsPlace blocks size redzone q)
none_in_room blocks size redzone from at room below less_room none q less place =
    elim (cases_lt q from) [
      | inl lt ↦ below q lt place
      | inr ge ↦ skipped_too blocks size (room + 1) redzone from at none (omega (arith, less_room)) q ge less place
    ]

pub none_joined : (blocks : Blocks) (size redzone from at : ℕ)
    → ((q : ℕ) → q < from → ¬ (IsPlace blocks size redzone q)) → AreNoPlaces blocks size redzone from at
    → (q : ℕ) → q < at → ¬ (IsPlace blocks size redzone q)
none_joined blocks size redzone from at below none q less place =
    elim (cases_lt q from) [
      | inl lt ↦ below q lt place
      | inr ge ↦ none q ge less place
    ]
