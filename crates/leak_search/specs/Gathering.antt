-- What the private functions say of the pointers that they gather.
use Rattle.std.specs.Prelude.{◌≡◌, ℕ, ◌<◌, ◌+◌, ◌≤◌, ◌%◌, ◌^◌, ◌==◌, ◌&&◌, ◌⊎◌, nat_lt, if◌then◌else◌, Bool, List, []}
use Rattle.std.specs.Prelude.{◌∷◌, ◌++◌, Option, Some, None, slice_get, slice_index_or, length}
use Rattle.std.specs.declared.vec.Vec.{Vec}
use Rattle.std.specs.declared.alloc.Global.{Global}
use Rattle.call_stacks.specs.declared.block.Block.{Block}
use Rattle.guest_heap.specs.Blocks.{Blocks, IsFirstLive}
use Rattle.guest_heap.specs.Steps.{live_from}
use Rattle.definedness.specs.declared.Bits.{Bits}
use Rattle.shadow_memory.specs.Memories.{bytes_in, shadows_in}
use Rattle.shadow_memory.specs.Shadows.{Shadow}
use Rattle.shadow_memory.specs.Values.{value_at, holds_in_range}
use Rattle.shadow_memory.specs.declared.memory.Memory.{Memory}
use Rattle.leak_graph.specs.declared.graph.Pointer.{Pointer}
use Rattle.leak_graph.specs.declared.leak_kind.LeakKind.{LeakKind}
use Rattle.leak_search.specs.declared.record.LeakRecord.{LeakRecord}
use Rattle.leak_graph.specs.Graphs.{LeadsTo, HasPointer, HasEdge}
use Rattle.leak_search.specs.declared.words.Word.{Word}
use Rattle.leak_search.specs.declared.finding.Owner.{Owner}
use Rattle.leak_search.specs.declared.finding.Owner.TheVariants.{Outside, Inside, Across}
use Rattle.leak_search.specs.Words.{word_at}
use Rattle.leak_search.specs.Search.{Scene, IsWordRoot, IsHeldIn}
use Rattle.leak_search.specs.Pointing.{PointsTo, IsInNoBlock, IsWordIn}

-- of two blocks, the one with the lower number lies wholly below the other, and each starts at a multiple of 4 above 0
pub record AreOrdered (blocks : List Block) : Type 0 where
  pub lower : (j k : ℕ) (a b : Block) → j < k → slice_get blocks j ≡ Some a → slice_get blocks k ≡ Some b
      → a.start < b.start
  pub below : (j k : ℕ) (a b : Block) → j < k → slice_get blocks j ≡ Some a → slice_get blocks k ≡ Some b
      → a.start + a.size ≤ b.start
  pub aligned : (k : ℕ) (b : Block) → slice_get blocks k ≡ Some b → b.start % 4 ≡ 0
  pub positive : (k : ℕ) (b : Block) → slice_get blocks k ≡ Some b → 0 < b.start

-- a list of blocks continues with the first live one at an address or above, and the next address is the one after its
-- first byte
abbrev pub GoesOn : Blocks → ℕ → Option ℕ → List Block → List Block → Type 0
GoesOn blocks from None old new = (live_from blocks from ≡ None) × (new ≡ old)
GoesOn blocks from (Some next) old new =
    (b : Block) × (live_from blocks from ≡ Some b) × IsFirstLive blocks.live from b × (next ≡ b.start + 1)
    × (new ≡ old ++ b ∷ [])

-- the words in a memory
abbrev pub words_in : Memory → ℕ → Option ℕ
words_in memory = word_at (bytes_in memory) (shadows_in memory)

-- the words whose values lie from low up to, but not including, high
unfoldable pub word_within : (ℕ → ℕ) → (ℕ → Shadow) → ℕ → ℕ → ℕ → Option ℕ
word_within bytes shadows low high w =
    if nat_lt w (2 ^ 32) && (w % 4 == 0 && holds_in_range bytes shadows low high w) then Some (value_at bytes w)
    else None

-- those in a memory
abbrev pub words_within : Memory → ℕ → ℕ → ℕ → Option ℕ
words_within memory low high = word_within (bytes_in memory) (shadows_in memory) low high

-- the first word at an address or above
pub record IsNextIn (words : ℕ → Option ℕ) (from : ℕ) (word : Word) : Type 0 where
  pub here : words word.address ≡ Some word.value
  pub within : from ≤ word.address
  pub aligned : word.address % 4 ≡ 0
  pub least : (v : ℕ) → from ≤ v → v < word.address → words v ≡ None

-- the registers of a list; past its end there are none
abbrev pub listed : List Bits → ℕ → Bits
listed registers r = slice_index_or registers r (record { value = 0; undef = 0 })

-- what a search looks at in a memory, a list of registers and a list of blocks
abbrev pub scene_by : Memory → List Bits → List Block → Scene
scene_by memory registers blocks = record { word = words_in memory; register = listed registers; blocks = blocks }

-- block k is the last that starts at an address or below
pub record IsLastAt (blocks : List Block) (addr k : ℕ) : Type 0 where
  pub within : k < length blocks
  pub here : (b : Block) → slice_get blocks k ≡ Some b → b.start ≤ addr
  pub after : (j : ℕ) (b : Block) → k < j → slice_get blocks j ≡ Some b → addr < b.start

-- the pointer leads to what the value points to
pub record Finds (blocks : List Block) (value : ℕ) (pointer : Pointer) : Type 0 where
  pub to : (starts : Bool) (b : ℕ) → LeadsTo starts pointer b → PointsTo starts blocks value b
  pub back : (starts : Bool) (b : ℕ) → PointsTo starts blocks value b → LeadsTo starts pointer b

-- where the word at w lies
abbrev pub IsOwner : List Block → ℕ → Owner → Type 0
IsOwner blocks w Outside = IsInNoBlock blocks w × ((a : ℕ) → IsWordIn blocks w a → ⊥)
IsOwner blocks w (Inside k) = IsWordIn blocks w k × ((a : ℕ) → IsWordIn blocks w a → k ≡ a) × (IsInNoBlock blocks w → ⊥)
IsOwner blocks w Across = (IsInNoBlock blocks w → ⊥) × ((a : ℕ) → IsWordIn blocks w a → ⊥)

-- the list gained pointers to these targets, and no others
pub record Gains (target : Bool → ℕ → Type 0) (old new : List Pointer) : Type 0 where
  pub keeps : (starts : Bool) (b : ℕ) → HasPointer starts old b → HasPointer starts new b
  pub gains : (starts : Bool) (b : ℕ) → target starts b → HasPointer starts new b
  pub sound : (starts : Bool) (b : ℕ) → HasPointer starts new b → HasPointer starts old b ⊎ target starts b

pub record EdgesGain (target : Bool → ℕ → ℕ → Type 0) (old new : List (Vec Pointer Global)) : Type 0 where
  pub keeps : (starts : Bool) (a b : ℕ) → HasEdge starts old a b → HasEdge starts new a b
  pub gains : (starts : Bool) (a b : ℕ) → target starts a b → HasEdge starts new a b
  pub sound : (starts : Bool) (a b : ℕ) → HasEdge starts new a b → HasEdge starts old a b ⊎ target starts a b

-- pointers of the words below an address
abbrev pub RootBelow : (ℕ → Option ℕ) → List Block → ℕ → Bool → ℕ → Type 0
RootBelow word blocks from starts b =
    (w : ℕ) × (value : ℕ) × (w < from) × (word w ≡ Some value) × IsInNoBlock blocks w × PointsTo starts blocks value b

abbrev pub EdgeBelow : (ℕ → Option ℕ) → List Block → ℕ → Bool → ℕ → ℕ → Type 0
EdgeBelow word blocks from starts a b =
    (w : ℕ) × (value : ℕ) × (w < from) × (word w ≡ Some value) × IsWordIn blocks w a × PointsTo starts blocks value b

-- pointers of all words
abbrev pub RootAny : (ℕ → Option ℕ) → List Block → Bool → ℕ → Type 0
RootAny word blocks starts b = (value : ℕ) × IsWordRoot word blocks value × PointsTo starts blocks value b

abbrev pub EdgeAny : (ℕ → Option ℕ) → List Block → Bool → ℕ → ℕ → Type 0
EdgeAny word blocks starts a b = (value : ℕ) × IsHeldIn word blocks a value × PointsTo starts blocks value b

-- pointers of the registers from x1 to below a number
abbrev pub RegisterBelow : (ℕ → Bits) → List Block → ℕ → Bool → ℕ → Type 0
RegisterBelow register blocks number starts b =
    (r : ℕ) × (1 ≤ r) × (r < number) × ((register r).undef ≡ 0) × PointsTo starts blocks (register r).value b

abbrev pub HasNoEdge : List (Vec Pointer Global) → Type 0
HasNoEdge edges = (starts : Bool) (a b : ℕ) → HasEdge starts edges a b → ⊥

pub record IsEntryBy (blocks : List Block) (kinds : List LeakKind) (k : ℕ) (entry : LeakRecord) : Type 0 where
  pub block : Block
  pub at : slice_get blocks k ≡ Some block
  pub start : entry.start ≡ block.start
  pub size : entry.size ≡ block.size
  pub trace : entry.trace ≡ block.trace
  pub kind : slice_get kinds k ≡ Some entry.kind

-- the records of the first n blocks, with these kinds
pub record AreRecordsBy (blocks : List Block) (kinds : List LeakKind) (entries : List LeakRecord) (n : ℕ) : Type 0 where
  pub len : length entries ≡ n
  pub each : (k : ℕ) (entry : LeakRecord) → slice_get entries k ≡ Some entry → IsEntryBy blocks kinds k entry
