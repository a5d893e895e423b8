-- Ranges of addresses with no place for a size.
use Rattle.std.proofs.Common.{◌≡◌, ℕ, ◌≤◌, max, arith}
use Rattle.call_stacks.specs.declared.block.Block.{Block}
use Rattle.guest_heap.specs.Blocks.{Blocks, IsKept, low_end, high_end}
use Rattle.guest_heap.specs.States.{AreNoPlaces}

-- a kept block with the same interval
pub record SameEnds (blocks : Blocks) (b : Block) : Type 0 where
  pub other : Block
  pub kept : IsKept blocks other
  pub low : low_end other ≡ low_end b
  pub high : high_end other ≡ high_end b

-- where each interval is kept, no place comes
pub no_more : (old new : Blocks) (size redzone from to : ℕ) → new.begin ≡ old.begin
    → ((b : Block) → IsKept old b → SameEnds new b)
    → AreNoPlaces old size redzone from to → AreNoPlaces new size redzone from to
no_more old new size redzone from to same kept none q over less place = none q over less (record {
  small = place.small;
  multiple = place.multiple;
  above = omega (arith, same, place.above);
  below = omega (arith, same, place.below);
  apart = λ b there meets.
      (let s = kept b there in
      place.apart s.other s.kept (omega (arith, meets.0, s.high), omega (arith, meets.1, s.low)));
})

-- where no block of a size has a place, none that isn't less has one
pub skipped_too : (blocks : Blocks) (size least redzone from to : ℕ) → AreNoPlaces blocks least redzone from to
    → max least 1 ≤ max size 1 → AreNoPlaces blocks size redzone from to
skipped_too blocks size least redzone from to none less_size q over less place = none q over less (record {
  small = (let small = place.small in omega arith);
  multiple = place.multiple;
  above = place.above;
  below = (let below = place.below in omega arith);
  apart = λ b kept meets. place.apart b kept (meets.0, omega (arith, meets.1));
})
