-- What may be fetched, and which code that is.
use Rattle.std.proofs.Common.{◌≡◌, ◌%◌, ◌&&◌, ◌==◌, ℕ, Bool, true, false, Option, Some, None, refl, sym, ap, ◌∙◌, arith}
use Rattle.std.proofs.Common.{not, IfSome, if◌then◌else◌, inl, inr}
use Rattle.std.specs.Prelude.{is_none}
use Rattle.std.proofs.lemmas.Bool.Decides.{nat_tests}
use Rattle.guest_elf.specs.Profiles.{has_halves, is_aligned, is_half, is_short, unit}
use Rattle.guest_elf.specs.declared.profile.Isa.{Isa}
use Rattle.instructions.specs.Codes.{code_of, row_of_code}
use Rattle.instructions.specs.declared.code.Code.{Code}
use Rattle.instructions.specs.declared.code.Code.TheVariants.{Word, Half}
use Rattle.instructions.specs.declared.instruction.Instruction.{Instruction}
use Rattle.shadow_memory.specs.Changes.{IsWidth}
use Rattle.shadow_memory.specs.Ranges.{first_from, little_word, window}
use Rattle.shadow_memory.specs.Shadows.{Shadow, first_inaccessible}
use Rattle.guest_machine.specs.State.{Core}
use Rattle.guest_machine.specs.DecodeCaches.{HasRow}
use Rattle.guest_machine.specs.Doing.{IsDecoded}
use Rattle.guest_machine.specs.Errors.{fetch_undef}
use Rattle.guest_machine.specs.Exec.{Takes, Cut, fetch_by, fetch_fault, fetched, fetches, half_at}
use Rattle.guest_machine.specs.Exec.{is_running}
use Rattle.guest_machine.specs.Exec.{word_at, word_fault}

second : (p q r : Bool) → p && (q && r) ≡ true → q ≡ true
second true true r h = refl
second true false r h = h
second false q r h = cc

-- an instruction may begin there
pub at_start : (core : Core) → fetches core ≡ true → is_aligned core.isa core.pc ≡ true
unfolding fetches
at_start core h = second _ _ _ h

is-even : (isa : Isa) (a : ℕ) → is_aligned isa a ≡ true → a % 2 ≡ 0
unfolding unit
is-even isa a h = go isa.compressed h
  where
    go : (compressed : Bool) → (a % (if compressed then 2 else 4) == 0) ≡ true → a % 2 ≡ 0
    go true h = grind (arith, nat_tests)
    go false h = let four : a % 4 ≡ 0 = grind (arith, nat_tests) in omega arith

-- where a machine is ready, and where a code is fetched
pub at_ready : (core : Core) → (is_running core.status && is_aligned core.isa core.pc) ≡ true → core.pc % 2 ≡ 0
at_ready core h = is-even core.isa core.pc (last (is_running core.status) (is_aligned core.isa core.pc) h)
  where
    last : (p q : Bool) → p && q ≡ true → q ≡ true
    last true q h = h
    last false q h = cc

-- something is only fetched where it may be
pub may_fetch : (core : Core) (bytes : ℕ → ℕ) (code : Code) → fetched core bytes ≡ Takes code → fetches core ≡ true
unfolding fetched
may_fetch core bytes code h = go (fetches core) _ _ _ _ h
  where
    go : (may short whole : Bool) (half word : ℕ) → fetch_by may short whole half word ≡ Takes code → may ≡ true
    go true short whole half word h = refl
    go false short whole half word h = cc

pub at_code : (core : Core) (bytes : ℕ → ℕ) (code : Code) → fetched core bytes ≡ Takes code → core.pc % 2 ≡ 0
at_code core bytes code h = is-even core.isa core.pc (at_start core (may_fetch core bytes code h))

pub at_cut : (core : Core) (bytes : ℕ → ℕ) → fetched core bytes ≡ Cut → core.pc % 2 ≡ 0
unfolding fetched
at_cut core bytes h = is-even core.isa core.pc (at_start core (go (fetches core) _ _ _ _ h))
  where
    go : (may short whole : Bool) (half word : ℕ) → fetch_by may short whole half word ≡ Cut → may ≡ true
    go true short whole half word h = refl
    go false short whole half word h = cc

-- ---- codes that were decoded

-- the lowest bits of a word are those of its first half
pub low-bits : (f : ℕ → ℕ) (a : ℕ) → little_word (window f a 4) % 4 ≡ little_word (window f a 2) % 4
unfolding little_word window
low-bits f a = omega arith

-- so words that are equal begin with a half or not alike
pub half-by-word : (isa : Isa) (f g : ℕ → ℕ) (a : ℕ) → little_word (window f a 4) ≡ little_word (window g a 4)
    → is_half isa (little_word (window g a 2)) ≡ is_half isa (little_word (window f a 2))
unfolding is_half
half-by-word isa f g a same =
    ap (λ n. isa.compressed && not (n == 3)) (sym (low-bits g a) ∙ ap (λ n. n % 4) (sym same) ∙ low-bits f a)

-- of four accessible bytes the first two are
two-of-four : (shadows : ℕ → Shadow) (a : ℕ) → first_inaccessible shadows a 4 ≡ None
    → first_inaccessible shadows a 2 ≡ None
unfolding first_inaccessible first_from
two-of-four shadows a h = grind (arith, nat_tests)

-- the first part of a word is accessible, if the word is
front : (isa : Isa) (shadows : ℕ → Shadow) (a : ℕ) → first_inaccessible shadows a 4 ≡ None
    → first_inaccessible shadows a (unit isa) ≡ None
unfolding unit
front isa shadows a h = go isa.compressed
  where
    go : (compressed : Bool) → first_inaccessible shadows a (if compressed then 2 else 4) ≡ None
    go true = two-of-four shadows a h
    go false = h

-- a word whose lowest bits are those of one is none of the profile's halves
no-half : (isa : Isa) (f : ℕ → ℕ) (a : ℕ) → is_short (little_word (window f a 4)) ≡ false
    → is_half isa (little_word (window f a 2)) ≡ false
unfolding is_half
no-half isa f a h = go isa.compressed
  where
    go : (compressed : Bool) → compressed && is_short (little_word (window f a 2)) ≡ false
    go true = ap (λ n. not (n == 3)) (sym (low-bits f a)) ∙ h
    go false = refl

both-true : (p q r : Bool) → p && q ≡ true → r ≡ true → p && (q && r) ≡ true
both-true true true r h k = k
both-true true false r h k = h
both-true false q r h k = h

-- what is fetched where the tests are known
fetched-by : (core : Core) (bytes : ℕ → ℕ) (short whole : Bool) → fetches core ≡ true
    → is_half core.isa (half_at core bytes) ≡ short → is_none (word_fault core) ≡ whole
    → fetched core bytes ≡ fetch_by true short whole (half_at core bytes) (word_at core bytes)
unfolding fetched
fetched-by core bytes short whole may half all =
    λ i. fetch_by (may i) (half i) (all i) (half_at core bytes) (word_at core bytes)

ready-fetches : (core : Core) → (is_running core.status && is_aligned core.isa core.pc) ≡ true
    → fetch_fault core ≡ None → fetches core ≡ true
unfolding fetches
ready-fetches core ready none = both-true _ _ _ ready (ap is_none none)

pub decoded_word : (core : Core) (bytes : ℕ → ℕ) (row : Instruction)
    → (is_running core.status && is_aligned core.isa core.pc) ≡ true
    → HasRow bytes core.shadow 4 core.pc row → IsDecoded core bytes 4 row
unfolding code_of
decoded_word core bytes row ready has = record {
  taken = fetched-by core bytes false true
      (ready-fetches core ready (front core.isa core.shadow core.pc has.bad))
      (no-half core.isa bytes core.pc has.length) (ap is_none has.bad);
  row = has.row;
  undef = has.undef;
}

-- instructions of 16 bits are told from others in one way, wherever there are any
by-halves : (isa : Isa) → has_halves isa ≡ true
    → (unit isa ≡ 2) × ((first : ℕ) → is_half isa first ≡ is_short first)
unfolding has_halves unit is_half
by-halves isa h =
    (ap (λ compressed. if compressed then 2 else 4) h, λ first. ap (λ compressed. compressed && is_short first) h)

pub decoded_half : (core : Core) (bytes : ℕ → ℕ) (row : Instruction) → has_halves core.isa ≡ true
    → (is_running core.status && is_aligned core.isa core.pc) ≡ true
    → HasRow bytes core.shadow 2 core.pc row → IsDecoded core bytes 2 row
unfolding code_of
decoded_half core bytes row is ready has = record {
  taken = fetched-by core bytes true (is_none (word_fault core))
      (ready-fetches core ready (ap (first_inaccessible core.shadow core.pc) (by-halves core.isa is).0 ∙ has.bad))
      ((by-halves core.isa is).1 (half_at core bytes) ∙ has.length) refl;
  row = has.row;
  undef = has.undef;
}

-- ---- codes that are kept

-- what is accessible where a word is fetched, and where a half is
pub word_there : (core : Core) (bytes : ℕ → ℕ) (word : ℕ) → fetched core bytes ≡ Takes (Word word)
    → (word ≡ word_at core bytes) × (word_fault core ≡ None)
unfolding fetched
word_there core bytes word h = go (fetches core) (is_half core.isa (half_at core bytes)) (word_fault core) h
  where
    go : (may short : Bool) (fault : Option ℕ)
        → fetch_by may short (is_none fault) (half_at core bytes) (word_at core bytes) ≡ Takes (Word word)
        → (word ≡ word_at core bytes) × (fault ≡ None)
    go false short fault h = cc
    go true true fault h = cc
    go true false None h = (let e : word_at core bytes ≡ word = cc in sym e, refl)
    go true false (Some a) h = cc

half-of : (may short whole : Bool) (at word half : ℕ) → fetch_by may short whole at word ≡ Takes (Half half)
    → half ≡ at
half-of false short whole at word half h = cc
half-of true true whole at word half h = let e : at ≡ half = cc in sym e
half-of true false true at word half h = cc
half-of true false false at word half h = cc

pub no-fault : (core : Core) → fetches core ≡ true → fetch_fault core ≡ None
unfolding fetches
no-fault core h =
    go (is_running core.status) (is_aligned core.isa core.pc) (fetch_fault core) h
  where
    go : (p q : Bool) (fault : Option ℕ) → p && (q && is_none fault) ≡ true → fault ≡ None
    go false q fault h = cc
    go true false fault h = cc
    go true true None h = refl
    go true true (Some a) h = cc

-- where a first part is fetched, two bytes are accessible
unit-there : (isa : Isa) (shadows : ℕ → Shadow) (a : ℕ) → first_inaccessible shadows a (unit isa) ≡ None
    → first_inaccessible shadows a 2 ≡ None
unfolding unit
unit-there isa shadows a h = go isa.compressed h
  where
    go : (compressed : Bool) → first_inaccessible shadows a (if compressed then 2 else 4) ≡ None
        → first_inaccessible shadows a 2 ≡ None
    go true h = h
    go false h = two-of-four shadows a h

pub two_there : (core : Core) → fetches core ≡ true → first_inaccessible core.shadow core.pc 2 ≡ None
two_there core h = unit-there core.isa core.shadow core.pc (no-fault core h)

pub half_there : (core : Core) (bytes : ℕ → ℕ) (half : ℕ) → fetched core bytes ≡ Takes (Half half)
    → (half ≡ half_at core bytes) × (first_inaccessible core.shadow core.pc 2 ≡ None)
unfolding fetched
half_there core bytes half h = (
  half-of (fetches core) (is_half core.isa (half_at core bytes)) (is_none (word_fault core)) (half_at core bytes)
      (word_at core bytes) half h,
  two_there core (may_fetch core bytes (Half half) h),
)

-- a code that is fetched and defined, and has the lowest bits of its length, may be kept
pub keep_word : (core : Core) (bytes : ℕ → ℕ) (word : ℕ) (row : Instruction) → fetched core bytes ≡ Takes (Word word)
    → row_of_code (Word word) ≡ Some row → fetch_undef core 4 ≡ 0 → is_short word ≡ false
    → HasRow bytes core.shadow 4 core.pc row
unfolding code_of
keep_word core bytes word row taken is undef long =
    let there = word_there core bytes word taken in
    record {
      row = ap (λ n. row_of_code (Word n)) (sym there.0) ∙ is;
      length = ap is_short (sym there.0) ∙ long;
      undef = undef;
      bad = there.1;
    }

pub keep_half : (core : Core) (bytes : ℕ → ℕ) (half : ℕ) (row : Instruction) → fetched core bytes ≡ Takes (Half half)
    → row_of_code (Half half) ≡ Some row → fetch_undef core 2 ≡ 0 → is_short half ≡ true
    → HasRow bytes core.shadow 2 core.pc row
unfolding code_of
keep_half core bytes half row taken is undef short =
    let there = half_there core bytes half taken in
    record {
      row = ap (λ n. row_of_code (Half n)) (sym there.0) ∙ is;
      length = ap is_short (sym there.0) ∙ short;
      undef = undef;
      bad = there.1;
    }

-- what a look-up finds
pub found_word : (core : Core) (bytes : ℕ → ℕ) (found : Option Instruction)
    → (is_running core.status && is_aligned core.isa core.pc) ≡ true
    → IfSome found (λ row. HasRow bytes core.shadow 4 core.pc row)
    → IfSome found (λ row. IsDecoded core bytes 4 row)
found_word core bytes None ready has = tt
found_word core bytes (Some row) ready has = decoded_word core bytes row ready has

pub found_half : (core : Core) (bytes : ℕ → ℕ) (found : Option Instruction) → has_halves core.isa ≡ true
    → (is_running core.status && is_aligned core.isa core.pc) ≡ true
    → IfSome found (λ row. HasRow bytes core.shadow 2 core.pc row)
    → IfSome found (λ row. IsDecoded core bytes 2 row)
found_half core bytes None is ready has = tt
found_half core bytes (Some row) is ready has = decoded_half core bytes row is ready has

-- the number of bytes of the shortest instructions is one that a load may have
pub unit_width : (isa : Isa) → IsWidth (unit isa)
unfolding unit
unit_width isa = go isa.compressed
  where
    go : (compressed : Bool) → IsWidth (if compressed then 2 else 4)
    go true = inr (inl refl)
    go false = inr (inr refl)
