-- What may be accessed in the heap region: the bytes of the live blocks, and no others.
use Rattle.std.specs.Prelude.{◌≡◌, ℕ, ◌+◌, ◌<◌, ◌≤◌, Some, true, false}
use Rattle.call_stacks.specs.declared.block.Block.{Block}
use Rattle.guest_heap.specs.Steps.{AreInRegion, AreApart}
use Rattle.guest_heap.specs.Blocks.{end_of}
use Rattle.memory_map.specs.Regions.{greatest_stack_end, overlap}
use Rattle.shadow_memory.specs.Ranges.{above}
use Rattle.guest_machine.specs.State.{Core}

-- live blocks lie in the heap region, and each of their bytes may be accessed
pub record BlocksAreOpen (core : Core) : Type 0 where
  pub region : AreInRegion core.blocks
  pub opened : (p : ℕ) (b : Block) → core.blocks.live p ≡ Some b → (i : ℕ) → i < b.size
      → (core.shadow (above p i)).accessible ≡ true

-- the same, blocks don't overlap and end in the region, and the stack's region ends at an address and has none of the
-- heap's
pub record HeapIsOpen (core : Core) : Type 0 where
  pub region : AreInRegion core.blocks
  pub beside : overlap core.blocks.begin core.stack.begin core.stack.end ≡ false
  pub stack : core.stack.end ≤ greatest_stack_end
  pub apart : AreApart core.blocks
  pub fits : (p : ℕ) (b : Block) → core.blocks.live p ≡ Some b → p + b.size ≤ end_of core.blocks
  pub opened : (p : ℕ) (b : Block) → core.blocks.live p ≡ Some b → (i : ℕ) → i < b.size
      → (core.shadow (p + i)).accessible ≡ true

-- an address is one of a live block's
pub record IsInLive (core : Core) (a : ℕ) : Type 0 where
  pub start : ℕ
  pub block : Block
  pub live : core.blocks.live start ≡ Some block
  pub low : start ≤ a
  pub high : a < start + block.size

-- no byte of the heap region may be accessed except those of live blocks
abbrev pub HeapIsClosed : Core → Type 0
HeapIsClosed core =
    (a : ℕ) → core.blocks.begin ≤ a → a < end_of core.blocks → (core.shadow a).accessible ≡ true
    → IsInLive core a
