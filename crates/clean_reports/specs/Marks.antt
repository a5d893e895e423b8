-- The marks that are in the way of a clean run. One that makes bits defined takes their values as meant: a range that
-- is made defined, a register that is set, bytes that are written. One that makes bytes of the heap inaccessible has
-- `realloc` copy them as they are. Turned bits stay undefined where they were, and pc has no undefined bits. So a mark
-- that turns bits or moves pc isn't in the way. One that leaves out an instruction goes by the bytes at pc if there are
-- instructions of 16 bits, whether they are defined or not; only then is it in the way.
use Rattle.std.specs.Prelude.{◌≡◌, ◌⊎◌, ◌||◌, ◌&&◌, ◌==◌, not, ℕ, ◌+◌, ◌^◌, ◌<◌, ◌≤◌, nat_lt, Bool, true, false, List}
use Rattle.std.specs.Prelude.{[], ◌∷◌}
use Rattle.guest_elf.specs.Profiles.{has_halves}
use Rattle.guest_elf.specs.declared.profile.Isa.{Isa}
use Rattle.memory_map.specs.Regions.{heap_size}
use Rattle.shadow_memory.specs.Ranges.{is_in}
use Rattle.shadow_memory.specs.declared.cells.RangeKind.{RangeKind}
use Rattle.shadow_memory.specs.declared.cells.RangeKind.TheVariants.{NoAccess, Undefined, Defined}
use Rattle.run_values.specs.declared.alteration.Act.{Act}
use Rattle.run_values.specs.declared.alteration.Act.TheVariants.{Make, Set, Flip, Write, Turn, Skip}
use Rattle.run_values.specs.declared.alteration.Alteration.{Alteration}

-- does a mark of this kind make bytes defined?
abbrev pub defines : RangeKind → Bool
defines Defined = true
defines Undefined = false
defines NoAccess = false

-- does it make them inaccessible?
abbrev pub hides : RangeKind → Bool
hides NoAccess = true
hides Undefined = false
hides Defined = false

-- a range has no byte of the heap region, which begins at an address
abbrev pub MissesHeap : ℕ → ℕ → ℕ → Type 0
MissesHeap heap addr len = (a : ℕ) → heap ≤ a → a < heap + heap_size → is_in addr len a ≡ false

-- the undefined bits of a register that has no defined one
abbrev pub all_bits : ℕ
all_bits = 4294967295

-- what one mark does: it makes no bit defined, and takes none as defined. Numbers are words, as in each line, so that a
-- register stays one
abbrev pub DefinesNothing : Isa → Act → Type 0
DefinesNothing isa (Make addr len kind) = defines kind ≡ false
DefinesNothing isa (Set register value undef) = (value < 2 ^ 32) × (undef ≡ all_bits)
DefinesNothing isa (Flip register mask) = mask < 2 ^ 32
DefinesNothing isa (Write addr width value) = ⊥
DefinesNothing isa (Turn addr mask) = addr < 2 ^ 32
DefinesNothing isa Skip = has_halves isa ≡ false
DefinesNothing isa _ = Unit {0}

-- it makes no byte of the heap region inaccessible
abbrev pub HidesNothing : ℕ → Act → Type 0
HidesNothing heap (Make addr len kind) = (hides kind ≡ false) ⊎ MissesHeap heap addr len
HidesNothing heap _ = Unit {0}

-- it makes no range with a byte of the heap region
abbrev pub MissesTheHeap : ℕ → Act → Type 0
MissesTheHeap heap (Make addr len kind) = MissesHeap heap addr len
MissesTheHeap heap _ = Unit {0}

-- no mark makes bits defined
abbrev pub DefineNothing : Isa → List Alteration → Type 0
DefineNothing isa [] = Unit {0}
DefineNothing isa (m ∷ ms) = DefinesNothing isa m.act × DefineNothing isa ms

-- none makes bytes of the heap region inaccessible
abbrev pub HideNothing : ℕ → List Alteration → Type 0
HideNothing heap [] = Unit {0}
HideNothing heap (m ∷ ms) = HidesNothing heap m.act × HideNothing heap ms

-- none makes a range with a byte of the heap region
abbrev pub MissTheHeap : ℕ → List Alteration → Type 0
MissTheHeap heap [] = Unit {0}
MissTheHeap heap (m ∷ ms) = MissesTheHeap heap m.act × MissTheHeap heap ms

-- does a range have a byte of the heap region? Then one of the two ranges begins inside the other
abbrev pub meets_heap : ℕ → ℕ → ℕ → Bool
meets_heap heap addr len = is_in addr len heap || (nat_lt 0 len && is_in heap heap_size addr)

-- does a number fit a word?
abbrev pub is_word : ℕ → Bool
is_word n = nat_lt n (2 ^ 32)

-- is what a mark does in the way of a clean run, with an instruction set and a heap region that begins at an address?
abbrev pub hinders : Isa → ℕ → Act → Bool
hinders isa heap (Make addr len kind) = defines kind || (hides kind && meets_heap heap addr len)
hinders isa heap (Set register value undef) = not (undef == all_bits && is_word value)
hinders isa heap (Flip register mask) = not (is_word mask)
hinders isa heap (Write addr width value) = true
hinders isa heap (Turn addr mask) = not (is_word addr)
hinders isa heap Skip = has_halves isa
hinders isa heap _ = false

abbrev pub is_in_the_way : Isa → ℕ → Alteration → Bool
is_in_the_way isa heap mark = hinders isa heap mark.act
