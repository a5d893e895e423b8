-- How a heap keeps its blocks: live ones in one table, freed ones in another, and the queue of the freed ones. The
-- place of a block is the number of its start among the multiples of 16 of the heap's region.
use Rattle.std.specs.Prelude.{ℕ, ◌+◌, ◌-◌, ◌*◌, ◌/◌, ◌<◌, ◌≤◌, ◌≡◌, ◌==◌, ◌⊎◌, nat_le, Option, Some, None, List, map}
use Rattle.std.specs.Prelude.{is_some, option_map, true, slice_get, if◌then◌else◌}
use Rattle.call_stacks.specs.declared.block.Block.{Block}
use Rattle.guest_heap.specs.Blocks.{Blocks, IsKept, IsPlace, low_end, high_end, end_of, volume_of}
use Rattle.memory_map.specs.Regions.{heap_size}
use Rattle.guest_heap.specs.Entries.{Entries, block_of}
use Rattle.guest_heap.specs.declared.entry.Entry.{Entry}

abbrev pub slot_of : ℕ → ℕ → ℕ
slot_of begin a = (a - begin) / 16

-- the block of an entry, if it begins at an address
abbrev pub beginning : ℕ → Option Entry → Option Block
beginning a None = None
beginning a (Some e) = if e.start == a then Some (block_of e) else None

abbrev pub shown : ℕ → Entries → List Entry → Blocks
shown begin live queue = record {
  begin = begin;
  live = λ a. beginning a (live (slot_of begin a));
  queue = map block_of queue;
}

-- the kept block at a place
abbrev pub kept_at : Entries → Entries → ℕ → ℕ → Option Block
kept_at live freed first k = live_or (live k) (freed k)
  where
    if_kept : Option Entry → Option Block
    if_kept None = None
    if_kept (Some e) = if nat_le first e.number then Some (block_of e) else None

    live_or : Option Entry → Option Entry → Option Block
    live_or None entry = if_kept entry
    live_or (Some e) entry = Some (block_of e)

-- the entry at a place of one of two tables
abbrev pub either : Entries → Entries → Entries
either live freed k = or_else (live k) (freed k)
  where
    or_else : Option Entry → Option Entry → Option Entry
    or_else None entry = entry
    or_else (Some e) entry = Some e

-- the live block at a place
abbrev pub live_block : Entries → ℕ → Option Block
live_block live k = option_map block_of (live k)

-- the first kept block from a place on
pub record FirstKept (kept : ℕ → Option Block) (from : ℕ) (b : Block) : Type 0 where
  pub place : ℕ
  pub above : from ≤ place
  pub there : kept place ≡ Some b
  pub none : (k : ℕ) → from ≤ k → k < place → kept k ≡ None

abbrev pub IsNextKept : (ℕ → Option Block) → ℕ → Option Block → Type 0
IsNextKept kept from None = (k : ℕ) → from ≤ k → k < 33554432 → kept k ≡ None
IsNextKept kept from (Some b) = FirstKept kept from b

-- the last kept block below a place
pub record LastKept (kept : ℕ → Option Block) (to : ℕ) (b : Block) : Type 0 where
  pub place : ℕ
  pub below : place < to
  pub there : kept place ≡ Some b
  pub none : (k : ℕ) → place < k → k < to → kept k ≡ None

abbrev pub IsLastKept : (ℕ → Option Block) → ℕ → Option Block → Type 0
IsLastKept kept to None = (k : ℕ) → k < to → kept k ≡ None
IsLastKept kept to (Some b) = LastKept kept to b

-- a kept block that begins below a place and whose interval extends past an address
pub record PastBelow (blocks : Blocks) (to low : ℕ) (b : Block) : Type 0 where
  pub kept : IsKept blocks b
  pub below : b.start + 16 ≤ blocks.begin + 16 * to
  pub past : low < high_end b
  pub within : high_end b ≤ end_of blocks

abbrev pub MeetsBelow : Blocks → ℕ → ℕ → Option Block → Type 0
MeetsBelow blocks to low None = (b : Block) → IsKept blocks b → b.start < blocks.begin + 16 * to → high_end b ≤ low
MeetsBelow blocks to low (Some b) = PastBelow blocks to low b

-- a kept block that begins at a place or above it, and whose interval begins below an address
pub record BeforeFrom (blocks : Blocks) (from high : ℕ) (b : Block) : Type 0 where
  pub kept : IsKept blocks b
  pub above : blocks.begin + 16 * from ≤ b.start
  pub before : low_end b < high
  pub within : high_end b ≤ end_of blocks

abbrev pub MeetsFrom : Blocks → ℕ → ℕ → Option Block → Type 0
MeetsFrom blocks from high None = (b : Block) → IsKept blocks b → blocks.begin + 16 * from ≤ b.start → high ≤ low_end b
MeetsFrom blocks from high (Some b) = BeforeFrom blocks from high b

-- from one address up to, but not including, another no block of a size has a place with a redzone
abbrev pub AreNoPlaces : Blocks → ℕ → ℕ → ℕ → ℕ → Type 0
AreNoPlaces blocks size redzone from to = (q : ℕ) → from ≤ q → q < to → ¬ (IsPlace blocks size redzone q)

-- the end of the interval of the last kept block that begins below an address, or the region's begin
abbrev pub EndsBelow : Blocks → ℕ → ℕ → Type 0
EndsBelow blocks start end =
    (end ≡ blocks.begin) ⊎ ((b : Block) × IsKept blocks b × (b.start < start) × (high_end b ≡ end))

-- the begin of the interval of the first kept block that begins above an address, or the region's end
abbrev pub BeginsAbove : Blocks → ℕ → ℕ → Type 0
BeginsAbove blocks start begin =
    (begin ≡ end_of blocks) ⊎ ((b : Block) × IsKept blocks b × (start < b.start) × (low_end b ≡ begin))

-- the sizes of entries
abbrev pub volume_in : List Entry → ℕ
volume_in entries = volume_of (map block_of entries)

-- a block's place and interval
pub record IsPlaced (begin : ℕ) (b : Block) (k : ℕ) : Type 0 where
  pub start : b.start ≡ begin + 16 * k
  pub low : begin + b.redzone ≤ b.start
  pub high : high_end b ≤ begin + heap_size

pub record IsLiveAt (begin : ℕ) (e : Entry) (k : ℕ) : Type 0 where
  pub placed : IsPlaced begin (block_of e) k
  pub live : e.freed ≡ None

pub record IsQueuedAt (begin : ℕ) (live freed : Entries) (first i : ℕ) (e : Entry) : Type 0 where
  pub number : e.number ≡ first + i
  pub placed : IsPlaced begin (block_of e) (slot_of begin e.start)
  pub marked : is_some e.freed ≡ true
  pub found : freed (slot_of begin e.start) ≡ Some e
  pub gone : live (slot_of begin e.start) ≡ None

-- a freed entry that isn't too old, where there is no live block, is in the queue
pub record IsFoundAt (begin : ℕ) (queue : List Entry) (first k : ℕ) (e : Entry) : Type 0 where
  pub queued : slice_get queue (e.number - first) ≡ Some e
  pub start : e.start ≡ begin + 16 * k

pub record AreSound (begin : ℕ) (live freed : Entries) (queue : List Entry) (first : ℕ) : Type 0 where
  pub lives : (k : ℕ) (e : Entry) → live k ≡ Some e → IsLiveAt begin e k
  pub queues : (i : ℕ) (e : Entry) → slice_get queue i ≡ Some e → IsQueuedAt begin live freed first i e
  pub finds : (k : ℕ) (e : Entry) → freed k ≡ Some e → first ≤ e.number → live k ≡ None
      → IsFoundAt begin queue first k e
  pub apart : (b c : Block) → IsKept (shown begin live queue) b → IsKept (shown begin live queue) c → b.start < c.start
      → high_end b ≤ low_end c
