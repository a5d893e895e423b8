-- The contents of a heap, and the effect of the heap calls.
-- Sources: Memcheck manual, section 4.3, `--freelist-vol` (freed blocks are kept in a queue, whose sizes sum to at most
-- a volume); Valgrind core manual, section 2.6, `--redzone-size` (padding before and after each block). Where blocks
-- lie is this project's own rule: each is at its lowest place.
use Rattle.std.specs.Prelude.{ℕ, ◌+◌, ◌-◌, ◌%◌, ◌<◌, ◌≤◌, ◌≡◌, ◌==◌, ◌⊎◌, nat_lt, nat_le, max, Option, Some, None, List}
use Rattle.std.specs.Prelude.{[], ◌∷◌, ◌++◌, Contains, drop, sum_by, if◌then◌else◌}
use Rattle.call_stacks.specs.declared.block.Block.{Block}
use Rattle.call_stacks.specs.declared.block.Near.{Near}
use Rattle.call_stacks.specs.declared.block.Place.TheVariants.{Before, Inside, After}
use Rattle.memory_map.specs.Regions.{heap_size}
use Rattle.guest_heap.specs.declared.released.Released.{Released}
use Rattle.guest_heap.specs.declared.released.Released.TheVariants.{Done, Nothing, Invalid}

-- the first address of the heap's region, and the blocks that are kept in it: the live block that begins at an
-- address, and the freed ones that are not forgotten yet, oldest first
pub record Blocks : Type 0 where
  pub begin : ℕ
  pub live : ℕ → Option Block
  pub queue : List Block

-- the first address after the region
abbrev pub end_of : Blocks → ℕ
end_of blocks = blocks.begin + heap_size

abbrev pub no_blocks : ℕ → Blocks
no_blocks begin = record { begin = begin; live = λ _. None; queue = [] }

abbrev pub IsKept : Blocks → Block → Type 0
IsKept blocks b = (blocks.live b.start ≡ Some b) ⊎ Contains blocks.queue b

-- the interval of a block: its bytes, or one byte if it has none, and a redzone on either side
abbrev pub low_end : Block → ℕ
low_end b = b.start - b.redzone

abbrev pub high_end : Block → ℕ
high_end b = b.start + max b.size 1 + b.redzone

-- does the range from one address up to, but not including, another meet a block's interval?
abbrev pub Meets : ℕ → ℕ → Block → Type 0
Meets low high b = (low < high_end b) × (low_end b < high)

-- placement --

-- the size of the greatest block, in bytes
abbrev pub greatest_size : ℕ
greatest_size = 16777216

-- a place for a block: a multiple of 16 whose interval lies in the heap's region and meets no kept block's interval
pub record IsPlace (blocks : Blocks) (size redzone p : ℕ) : Type 0 where
  pub small : size ≤ greatest_size
  pub multiple : p % 16 ≡ 0
  pub above : blocks.begin + redzone ≤ p
  pub below : p + max size 1 + redzone ≤ end_of blocks
  pub apart : (b : Block) → IsKept blocks b → ¬ (Meets (p - redzone) (p + max size 1 + redzone) b)

pub record IsLeastPlace (blocks : Blocks) (size redzone p : ℕ) : Type 0 where
  pub place : IsPlace blocks size redzone p
  pub least : (q : ℕ) → q < p → ¬ (IsPlace blocks size redzone q)

-- the least place, or none if there is no place
abbrev pub Places : Blocks → ℕ → ℕ → Option ℕ → Type 0
Places blocks size redzone None = (q : ℕ) → ¬ (IsPlace blocks size redzone q)
Places blocks size redzone (Some p) = IsLeastPlace blocks size redzone p

-- the live blocks, with the one at an address changed
abbrev pub with_live : (ℕ → Option Block) → ℕ → Option Block → ℕ → Option Block
with_live live at block = λ a. if a == at then block else live a

-- the blocks with another live block
abbrev pub with_block : Blocks → Block → Blocks
with_block blocks b = record {
  begin = blocks.begin;
  live = with_live blocks.live b.start (Some b);
  queue = blocks.queue;
}

-- a new live block at a place, if there is one
abbrev pub allocated : Blocks → Option ℕ → ℕ → List ℕ → ℕ → Blocks
allocated blocks None size trace redzone = blocks
allocated blocks (Some p) size trace redzone =
    with_block blocks (record { start = p; size = size; redzone = redzone; trace = trace; freed = None })

-- release --

-- a block, freed
abbrev pub freed_by : List ℕ → Block → Block
freed_by trace b = record b { freed = Some trace }

abbrev pub done_or : List ℕ → Option Block → Released
done_or trace None = Invalid
done_or trace (Some b) = Done (freed_by trace b)

-- what the release of an address returns
abbrev pub released_at : Blocks → ℕ → List ℕ → Released
released_at blocks ptr trace = if ptr == 0 then Nothing else done_or trace (blocks.live ptr)

-- a freed block is no longer live, and is the last of the queue
abbrev pub queue_with : Blocks → Block → Blocks
queue_with blocks b = record {
  begin = blocks.begin;
  live = with_live blocks.live b.start None;
  queue = blocks.queue ++ b ∷ [];
}

abbrev pub volume_of : List Block → ℕ
volume_of queue = sum_by (λ b. b.size) queue

-- the longest suffix whose sizes sum to at most a volume
pub record IsLongestFitting (volume : ℕ) (whole suffix : List Block) : Type 0 where
  pub dropped : ℕ
  pub suffix_of : suffix ≡ drop dropped whole
  pub fits : volume_of suffix ≤ volume
  pub longest : (n : ℕ) → n < dropped → volume < volume_of (drop n whole)

-- a suffix, if each longer one sums to too much
pub record Drops (volume : ℕ) (whole suffix : List Block) : Type 0 where
  pub dropped : ℕ
  pub suffix_of : suffix ≡ drop dropped whole
  pub longer : (n : ℕ) → n < dropped → volume < volume_of (drop n whole)

-- a block that is freed is no longer live, and goes to the end of the queue, from which the oldest leave
pub record Frees (b : Block) (volume : ℕ) (old new : Blocks) : Type 0 where
  pub begin : new.begin ≡ old.begin
  pub live : new.live ≡ with_live old.live b.start None
  pub queue : IsLongestFitting volume (old.queue ++ b ∷ []) new.queue

abbrev pub Releases : Released → ℕ → Blocks → Blocks → Type 0
Releases (Done b) volume old new = Frees b volume old new
Releases Nothing volume old new = new ≡ old
Releases Invalid volume old new = new ≡ old

-- what is near an address --

abbrev pub Holds : Block → ℕ → Type 0
Holds b a = (low_end b ≤ a) × (a < high_end b)

abbrev pub near_of : Block → ℕ → Near
near_of b a =
    if nat_lt a b.start then record { block = b; place = Before; distance = b.start - a }
    else if nat_le (b.start + b.size) a then record { block = b; place = After; distance = a - (b.start + b.size) }
    else record { block = b; place = Inside; distance = a - b.start }

-- the live block with the least start not below an address
pub record IsFirstLive (live : ℕ → Option Block) (from : ℕ) (b : Block) : Type 0 where
  pub above : from ≤ b.start
  pub there : live b.start ≡ Some b
  pub least : (a : ℕ) → from ≤ a → a < b.start → live a ≡ None

-- the kept block with the least start not below an address: any other from there on begins above it
pub record IsFirstKept (blocks : Blocks) (from : ℕ) (b : Block) : Type 0 where
  pub kept : IsKept blocks b
  pub above : from ≤ b.start
  pub least : (c : Block) → IsKept blocks c → from ≤ c.start → (c ≡ b) ⊎ (b.start < c.start)
