-- What a value points to, and which words are a block's (Memcheck manual, section 4.2, "Memory leak detection":
-- start-pointers and interior-pointers). That a value one past a block doesn't count, nor a word partly in one, is this
-- project's own rule.
use Rattle.std.specs.Prelude.{◌≡◌, ℕ, ◌+◌, ◌<◌, ◌≤◌, ◌⊎◌, Bool, true, false, List, Some, slice_get}
use Rattle.call_stacks.specs.declared.block.Block.{Block}

abbrev pub IsStartPointer : ℕ → Block → Type 0
IsStartPointer value block = value ≡ block.start

abbrev pub IsInteriorPointer : ℕ → Block → Type 0
IsInteriorPointer value block = (block.start < value) × (value < block.start + block.size)

-- a start-pointer, or a pointer of either sort
abbrev pub IsPointer : Bool → ℕ → Block → Type 0
IsPointer true value block = IsStartPointer value block
IsPointer false value block = IsStartPointer value block ⊎ IsInteriorPointer value block

-- the value is a pointer to the block with number b
abbrev pub PointsTo : Bool → List Block → ℕ → ℕ → Type 0
PointsTo starts blocks value b = (block : Block) × (slice_get blocks b ≡ Some block) × IsPointer starts value block

abbrev pub HoldsByte : Block → ℕ → Type 0
HoldsByte block addr = (block.start ≤ addr) × (addr < block.start + block.size)

-- none of the four bytes from w on is in a block
abbrev pub IsInNoBlock : List Block → ℕ → Type 0
IsInNoBlock blocks w =
    (a : ℕ) (block : Block) → slice_get blocks a ≡ Some block → (i : ℕ) → i < 4 → HoldsByte block (w + i) → ⊥

-- the four bytes from w on lie wholly in the block with number a
abbrev pub IsWordIn : List Block → ℕ → ℕ → Type 0
IsWordIn blocks w a =
    (block : Block) × (slice_get blocks a ≡ Some block) × (block.start ≤ w) × (w + 4 ≤ block.start + block.size)
