-- The heap calls as functions of the blocks.
use Rattle.std.specs.Prelude.{ℕ, zero, suc, ◌+◌, ◌-◌, ◌%◌, ◌<◌, ◌≤◌, ◌≡◌, nat_lt, nat_le, max, Bool, ◌&&◌}
use Rattle.std.specs.Prelude.{if◌then◌else◌, Option, Some, None, is_none, is_some, true, ◌⊎◌, Contains, List, [], ◌∷◌}
use Rattle.std.specs.Prelude.{◌++◌}
use Rattle.std.specs.List.{filter, filter_map, find}
use Rattle.std.specs.Option.{option_map}
use Rattle.call_stacks.specs.declared.block.Block.{Block}
use Rattle.call_stacks.specs.declared.block.Near.{Near}
use Rattle.guest_heap.specs.Blocks.{Blocks, IsKept, low_end, high_end, near_of, allocated, with_live, volume_of}
use Rattle.guest_heap.specs.Blocks.{released_at, greatest_size, end_of}
use Rattle.memory_map.specs.Regions.{greatest_heap_begin}
use Rattle.guest_heap.specs.declared.released.Released.{Released}
use Rattle.guest_heap.specs.declared.released.Released.TheVariants.{Done, Nothing, Invalid}

-- the blocks in a row --

-- a number of multiples of 16, from one on
unfoldable pub multiples : ℕ → ℕ → List ℕ
multiples from zero = []
multiples from (suc n) = from ∷ multiples (from + 16) n

-- the number of them in the heap's region, heap_size / 16; opaque, so that no proof counts them
unfoldable pub slots : ℕ
slots = 33554432

-- the addresses at which a block may begin, in a region that begins at an address
unfoldable pub starts : ℕ → List ℕ
starts begin = multiples begin slots

-- the live blocks in order of address
unfoldable pub live_list : Blocks → List Block
live_list blocks = filter_map blocks.live (starts blocks.begin)

-- followed by the queue
unfoldable pub kept_list : Blocks → List Block
kept_list blocks = live_list blocks ++ blocks.queue

-- a live block begins at the address where it is found, which is a multiple of 16 in the heap's region
pub record BeginsAt (blocks : Blocks) (b : Block) (a : ℕ) : Type 0 where
  pub start : b.start ≡ a
  pub multiple : a % 16 ≡ 0
  pub above : blocks.begin ≤ a
  pub below : a < end_of blocks

-- the region begins at a multiple of 16 other than 0 and ends at an address, and each live block is in it
pub record AreInRegion (blocks : Blocks) : Type 0 where
  pub grid : blocks.begin % 16 ≡ 0
  pub some : 0 < blocks.begin
  pub within : blocks.begin ≤ greatest_heap_begin
  pub live : (a : ℕ) (b : Block) → blocks.live a ≡ Some b → BeginsAt blocks b a

-- two intervals that don't meet
abbrev pub AreClear : Block → Block → Type 0
AreClear b c = (high_end b ≤ low_end c) ⊎ (high_end c ≤ low_end b)

-- live blocks aren't freed, those in the queue are, and the intervals of two kept blocks don't meet
pub record AreApart (blocks : Blocks) : Type 0 where
  pub lives : (a : ℕ) (b : Block) → blocks.live a ≡ Some b → b.freed ≡ None
  pub queues : (b : Block) → Contains blocks.queue b → is_some b.freed ≡ true
  pub apart : (b c : Block) → IsKept blocks b → IsKept blocks c → (b ≡ c) ⊎ AreClear b c

-- the calls --

-- does the range from one address up to, but not including, another meet a block's interval?
abbrev pub meets : ℕ → ℕ → Block → Bool
meets low high b = nat_lt low (high_end b) && nat_lt (low_end b) high

-- no kept block's interval meets the range
abbrev pub is_free : Blocks → ℕ → ℕ → Bool
is_free blocks low high = is_none (find (meets low high) (kept_list blocks))

-- is a multiple of 16 a place for a block?
unfoldable pub is_place : Blocks → ℕ → ℕ → ℕ → Bool
is_place blocks size redzone p =
    nat_le size greatest_size
    && (nat_le (blocks.begin + redzone) p
    && (nat_le (p + max size 1 + redzone) (end_of blocks)
    && is_free blocks (p - redzone) (p + max size 1 + redzone)))

-- the least place
unfoldable pub place : Blocks → ℕ → ℕ → Option ℕ
place blocks size redzone = find (is_place blocks size redzone) (starts blocks.begin)

-- the blocks after an allocation
abbrev pub allocated_blocks : Blocks → ℕ → List ℕ → ℕ → Blocks
allocated_blocks blocks size trace redzone = allocated blocks (place blocks size redzone) size trace redzone

-- the longest suffix whose sizes sum to at most a volume
unfoldable pub queue_after : ℕ → List Block → List Block
queue_after volume [] = []
queue_after volume (b ∷ bs) = if nat_le (volume_of (b ∷ bs)) volume then b ∷ bs else queue_after volume bs

-- the blocks after a release, by what it returns
abbrev pub after_release : Released → ℕ → Blocks → Blocks
after_release (Done b) volume blocks = record {
  begin = blocks.begin;
  live = with_live blocks.live b.start None;
  queue = queue_after volume (blocks.queue ++ b ∷ []);
}
after_release Nothing volume blocks = blocks
after_release Invalid volume blocks = blocks

abbrev pub released_blocks : Blocks → ℕ → List ℕ → ℕ → Blocks
released_blocks blocks ptr trace volume = after_release (released_at blocks ptr trace) volume blocks

-- the kept block whose interval has an address, and how far from it the address is
unfoldable pub near : Blocks → ℕ → Option Near
near blocks a = option_map (λ b. near_of b a) (find (meets a (a + 1)) (kept_list blocks))

-- the live block with the least start not below an address
unfoldable pub live_from : Blocks → ℕ → Option Block
live_from blocks from = find (λ b. nat_le from b.start) (live_list blocks)

-- the live blocks that don't begin below an address, in order
unfoldable pub live_above : Blocks → ℕ → List Block
live_above blocks from = filter (λ b. nat_le from b.start) (live_list blocks)
