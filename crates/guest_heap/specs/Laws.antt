-- What the functions of the heap calls mean, for all blocks.
use Rattle.std.specs.Prelude.{ℕ, ◌+◌, ◌%◌, ◌<◌, ◌≤◌, ◌≡◌, ◌↔◌, Some, None, IfSome, IfNone, List, [], ◌∷◌, Contains}
use Rattle.memory_map.specs.Regions.{greatest_heap_begin}
use Rattle.call_stacks.specs.declared.block.Block.{Block}
use Rattle.guest_heap.specs.Blocks.{Blocks, IsKept, Holds, Places, near_of, no_blocks, IsLongestFitting}
use Rattle.guest_heap.specs.Steps.{AreInRegion, AreApart, place, allocated_blocks, queue_after, released_blocks, near}
use Rattle.guest_heap.specs.Steps.{live_from, live_list, live_above}

-- the place of a new block is the least
abbrev pub PlaceIsLeast : Type 0
PlaceIsLeast =
    (blocks : Blocks) (size redzone : ℕ) →
    AreInRegion blocks → Places blocks size redzone (place blocks size redzone)

-- the queue after a release is the longest that fits, and the only such one
abbrev pub QueueIsLongest : Type 0
QueueIsLongest =
    (volume : ℕ) (whole suffix : List Block)
    → IsLongestFitting volume whole suffix ↔ (suffix ≡ queue_after volume whole)

-- what is near an address is a kept block that has it, if there is one
pub record NearHolds : Type 0 where
  pub kept : (blocks : Blocks) (a : ℕ) → AreInRegion blocks → IfSome (near blocks a) (λ n. IsKept blocks n.block)
  pub holds : (blocks : Blocks) (a : ℕ) → IfSome (near blocks a) (λ n. Holds n.block a)
  pub place : (blocks : Blocks) (a : ℕ) → IfSome (near blocks a) (λ n. n ≡ near_of n.block a)
  pub none : (blocks : Blocks) (a : ℕ) → AreInRegion blocks
      → IfNone (near blocks a) ((b : Block) → IsKept blocks b → ¬ (Holds b a))

-- the list of live blocks has all of them and no others, and `live_from` follows it
pub record LiveGoesOn : Type 0 where
  pub listed : (blocks : Blocks) (b : Block) → AreInRegion blocks
      → Contains (live_list blocks) b ↔ (blocks.live b.start ≡ Some b)
  pub all : (blocks : Blocks) → live_above blocks 0 ≡ live_list blocks
  pub some :
      (blocks : Blocks) (from : ℕ) (b : Block) →
      AreInRegion blocks →
      live_from blocks from ≡ Some b →
      live_above blocks from ≡ b ∷ live_above blocks (b.start + 1)
  pub none : (blocks : Blocks) (from : ℕ) → live_from blocks from ≡ None → live_above blocks from ≡ []

-- live blocks stay in the region
pub record KeepsRegion : Type 0 where
  pub none : (begin : ℕ) → begin % 16 ≡ 0 → 0 < begin → begin ≤ greatest_heap_begin
      → AreInRegion (no_blocks begin)
  pub allocated :
      (blocks : Blocks) (size : ℕ) (trace : List ℕ) (redzone : ℕ) →
      AreInRegion blocks → AreInRegion (allocated_blocks blocks size trace redzone)
  pub released :
      (blocks : Blocks) (ptr : ℕ) (trace : List ℕ) (volume : ℕ) →
      AreInRegion blocks → AreInRegion (released_blocks blocks ptr trace volume)

-- kept blocks stay apart
pub record KeepsApart : Type 0 where
  pub none : (begin : ℕ) → AreApart (no_blocks begin)
  pub allocated :
      (blocks : Blocks) (size : ℕ) (trace : List ℕ) (redzone : ℕ) →
      AreInRegion blocks → AreApart blocks → AreApart (allocated_blocks blocks size trace redzone)
  pub released :
      (blocks : Blocks) (ptr : ℕ) (trace : List ℕ) (volume : ℕ) →
      AreInRegion blocks → AreApart blocks → AreApart (released_blocks blocks ptr trace volume)

-- so the kept block that has an address is the one near it
abbrev pub NearIsOne : Type 0
NearIsOne =
    (blocks : Blocks) (a : ℕ) (b : Block) →
    AreInRegion blocks → AreApart blocks → IsKept blocks b → Holds b a → near blocks a ≡ Some (near_of b a)
