-- Instructions that were decoded recently, each with the address of the code that it was decoded from. Those of words
-- are in one table, and those of halves in another one.
use Rattle.std.specs.Prelude.{◌≡◌, ℕ, ◌+◌, ◌/◌, ◌%◌, ◌<◌, ◌≤◌, ◌==◌, ◌⊎◌, false, Some, None, List, slice_index_or}
use Rattle.guest_elf.specs.Profiles.{is_short}
use Rattle.shadow_memory.specs.Ranges.{is_in, little_word, window}
use Rattle.shadow_memory.specs.Shadows.{Shadow, first_inaccessible, loaded_undef}
use Rattle.instructions.specs.Codes.{code_of, row_of_code}
use Rattle.instructions.specs.declared.instruction.Instruction.{Instruction}
use Rattle.instructions.specs.declared.instruction.Instruction.TheVariants.{Fence}
use Rattle.run_values.specs.declared.span.Span.{Span}
use Rattle.guest_machine.specs.declared.decode_cache.Decoded.{Decoded}

-- how many bytes the codes of a table have
abbrev pub IsCodeLen : ℕ → Type 0
IsCodeLen len = (len ≡ 4) ⊎ (len ≡ 2)

-- the place of an address in a table of 4,096 for codes of this length
abbrev pub place_of : ℕ → ℕ → ℕ
place_of len a = a / len % 4096

-- no entry: no instruction begins at address 1
abbrev pub no_entry : Decoded
no_entry = record { addr = 1; row = Fence }

abbrev pub entry_at : List Decoded → ℕ → Decoded
entry_at entries k = slice_index_or entries k no_entry

abbrev pub IsEntry : Decoded → Type 0
IsEntry entry = entry.addr % 2 ≡ 0

-- an entry of a place, whose code lies between two addresses
pub record IsEntryAt (len k low high : ℕ) (entry : Decoded) : Type 0 where
  pub place : place_of len entry.addr ≡ k
  pub above : low ≤ entry.addr
  pub below : entry.addr + len ≤ high

abbrev pub AreEntries : ℕ → List Decoded → ℕ → ℕ → Type 0
AreEntries len entries low high =
    (k : ℕ) → IsEntry (entry_at entries k) → IsEntryAt len k low high (entry_at entries k)

-- a range that has the code of each entry
pub record CoversEntries (range : Span) (len : ℕ) (entries : List Decoded) : Type 0 where
  pub above : (k : ℕ) → IsEntry (entry_at entries k) → range.start ≤ (entry_at entries k).addr
  pub below : (k : ℕ) → IsEntry (entry_at entries k) → (entry_at entries k).addr + len ≤ range.start + range.len

-- a memory has a code of this length at an address, by its lowest bits too, that decodes to an instruction: its bytes
-- may be accessed, and are defined
pub record HasRow (bytes : ℕ → ℕ) (shadows : ℕ → Shadow) (len a : ℕ) (instruction : Instruction) : Type 0 where
  pub row : row_of_code (code_of len (little_word (window bytes a len))) ≡ Some instruction
  pub length : is_short (little_word (window bytes a len)) ≡ (len == 2)
  pub undef : little_word (window (λ b. loaded_undef (shadows b)) a len) ≡ 0
  pub bad : first_inaccessible shadows a len ≡ None

-- it has the code of each entry
abbrev pub HasEach : (ℕ → ℕ) → (ℕ → Shadow) → ℕ → List Decoded → Type 0
HasEach bytes shadows len entries =
    (k : ℕ) → IsEntry (entry_at entries k)
    → HasRow bytes shadows len (entry_at entries k).addr (entry_at entries k).row

-- that of each entry of both tables
pub record HasBoth (bytes : ℕ → ℕ) (shadows : ℕ → Shadow) (longs shorts : List Decoded) : Type 0 where
  pub words : HasEach bytes shadows 4 longs
  pub halves : HasEach bytes shadows 2 shorts

-- no byte of the code at an address is among n from another on
abbrev pub IsClear : ℕ → ℕ → ℕ → ℕ → Type 0
IsClear start n len a = (i : ℕ) → i < len → is_in start n (a + i) ≡ false

-- each entry is in its place
abbrev pub ArePlaced : ℕ → List Decoded → Type 0
ArePlaced len entries = (k : ℕ) → IsEntry (entry_at entries k) → place_of len (entry_at entries k).addr ≡ k

-- the remaining entries of a table, none of which has one of n bytes from an address on, as far as its address, counted
-- in codes, lies from one number up to, but not including, another
pub record IsLeftBut (old new : List Decoded) (start n len from to k : ℕ) : Type 0 where
  pub same : entry_at new k ≡ entry_at old k
  pub clear : from ≤ (entry_at new k).addr / len → (entry_at new k).addr / len < to
      → IsClear start n len (entry_at new k).addr

abbrev pub AreLeftBut : List Decoded → List Decoded → ℕ → ℕ → ℕ → ℕ → ℕ → Type 0
AreLeftBut old new start n len from to =
    (k : ℕ) → IsEntry (entry_at new k) → IsLeftBut old new start n len from to k

-- the remaining entries of a table, none of which has one of n bytes from an address on
pub record IsLeft (old new : List Decoded) (start n len k : ℕ) : Type 0 where
  pub same : entry_at new k ≡ entry_at old k
  pub clear : IsClear start n len (entry_at new k).addr

abbrev pub AreLeft : List Decoded → List Decoded → ℕ → ℕ → ℕ → Type 0
AreLeft old new start n len = (k : ℕ) → IsEntry (entry_at new k) → IsLeft old new start n len k
