-- The records of a leak search (Memcheck manual, section 4.2, "Memory leak detection"), given what it looks at. A word
-- that lies partly in a block is neither a root nor a word of the block.
use Rattle.std.specs.Prelude.{◌≡◌, ℕ, ◌<◌, ◌≤◌, ◌⊎◌, Bool, true, false, List, Option, Some, slice_get, length}
use Rattle.definedness.specs.declared.Bits.{Bits}
use Rattle.call_stacks.specs.declared.block.Block.{Block}
use Rattle.leak_graph.specs.Leaks.{Links, HasKind}
use Rattle.leak_search.specs.declared.record.LeakRecord.{LeakRecord}
use Rattle.leak_search.specs.Pointing.{PointsTo, IsInNoBlock, IsWordIn}

-- what a search looks at: the value of the word at each address, if there is one, the registers by their numbers, and
-- the live blocks in order of address
pub record Scene : Type 0 where
  pub word : ℕ → Option ℕ
  pub register : ℕ → Bits
  pub blocks : List Block

-- the value of one of x1 to x31, wholly defined
abbrev pub IsRegisterRoot : (ℕ → Bits) → ℕ → Type 0
IsRegisterRoot register value = (r : ℕ) × (1 ≤ r) × (r < 32) × ((register r).undef ≡ 0) × ((register r).value ≡ value)

-- the value of a word with no byte in a live block
abbrev pub IsWordRoot : (ℕ → Option ℕ) → List Block → ℕ → Type 0
IsWordRoot word blocks value = (w : ℕ) × (word w ≡ Some value) × IsInNoBlock blocks w

-- the value of a word of the block with number a
abbrev pub IsHeldIn : (ℕ → Option ℕ) → List Block → ℕ → ℕ → Type 0
IsHeldIn word blocks a value = (w : ℕ) × (word w ≡ Some value) × IsWordIn blocks w a

abbrev pub IsRoot : Scene → ℕ → Type 0
IsRoot scene value = IsRegisterRoot scene.register value ⊎ IsWordRoot scene.word scene.blocks value

-- a root points to block b; a word of block a does
abbrev pub RootPointsTo : Scene → Bool → ℕ → Type 0
RootPointsTo scene starts b = (value : ℕ) × IsRoot scene value × PointsTo starts scene.blocks value b

abbrev pub BlockPointsTo : Scene → Bool → ℕ → ℕ → Type 0
BlockPointsTo scene starts a b =
    (value : ℕ) × IsHeldIn scene.word scene.blocks a value × PointsTo starts scene.blocks value b

-- the links between the live blocks, which are numbered in order of address
unfoldable pub links_in : Scene → Links
links_in scene = record {
  count = length scene.blocks;
  start_root = RootPointsTo scene true;
  root = RootPointsTo scene false;
  start_edge = BlockPointsTo scene true;
  edge = BlockPointsTo scene false;
}

-- the record of a block
pub record IsRecordOf (scene : Scene) (k : ℕ) (entry : LeakRecord) : Type 0 where
  pub block : Block
  pub at : slice_get scene.blocks k ≡ Some block
  pub start : entry.start ≡ block.start
  pub size : entry.size ≡ block.size
  pub trace : entry.trace ≡ block.trace
  pub kind : HasKind (links_in scene) k entry.kind

-- one record for each live block, in order of address
pub record AreRecordsIn (scene : Scene) (entries : List LeakRecord) : Type 0 where
  pub len : length entries ≡ length scene.blocks
  pub each : (k : ℕ) (entry : LeakRecord) → slice_get entries k ≡ Some entry → IsRecordOf scene k entry
