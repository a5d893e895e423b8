-- What an alteration leaves as it is: whether the machine runs, its instruction set, and the bytes of a code that it
-- doesn't write.
use Rattle.std.proofs.Common.{◌≡◌, ℕ, ◌<◌, ◌≤◌, ◌^◌, ◌&&◌, Bool, true, false, cond, nat_lt, refl, ap, sym}
use Rattle.std.proofs.Common.{◌∙◌}
use Rattle.std.proofs.Common.{arith, inl, inr}
use Rattle.std.proofs.Math.Path.{fun_ext}
use Rattle.std.proofs.lemmas.Bool.{cases_lt, true≢false}
use Rattle.std.proofs.lemmas.Bool.Decides.{nat_tests}
use Rattle.definedness.specs.Operations.{xor_of}
use Rattle.guest_elf.specs.Profiles.{has_halves, is_half, is_short}
use Rattle.guest_elf.specs.declared.profile.Isa.{Isa}
use Rattle.instructions.specs.Codes.{len_of, number_of}
use Rattle.instructions.specs.Widths.{width_len}
use Rattle.instructions.specs.declared.code.Code.{Code}
use Rattle.shadow_memory.specs.Ranges.{above, byte_of, changed_in, is_in, little_word, offset, window, written}
use Rattle.guest_machine.specs.Alterations.{altered, altered_bytes, altered_core, alters, bytes_by, core_by}
use Rattle.guest_machine.specs.Alterations.{goes_by_bytes, passed}
use Rattle.guest_machine.specs.Exec.{half_at}
use Rattle.guest_machine.specs.Laws.{InCode}
use Rattle.guest_machine.specs.Registers.{set_register}
use Rattle.guest_machine.specs.Run.{poked}
use Rattle.guest_machine.specs.Spans.{covers}
use Rattle.guest_machine.specs.State.{Core, State}
use Rattle.run_values.specs.Alterations.{writes_of}
use Rattle.run_values.specs.declared.alteration.Act.{Act}
use Rattle.run_values.specs.declared.alteration.Act.TheVariants.{Make, Set, Flip, Jump, FlipPc, Write, Turn, Skip}
use Rattle.run_values.specs.declared.alteration.Alteration.{Alteration}

-- ---- whether the machine runs

by-status : (act : Act) (core : Core) (bytes : ℕ → ℕ) → (core_by act core bytes).status ≡ core.status
unfolding set_register
by-status (Make addr len kind) core bytes = refl
by-status (Set r value undef) core bytes = refl
by-status (Flip r mask) core bytes = refl
by-status (Jump target) core bytes = refl
by-status (FlipPc mask) core bytes = refl
by-status (Write addr width value) core bytes = refl
by-status (Turn addr mask) core bytes = refl
by-status Skip core bytes = refl

-- and the instruction set
by-isa : (act : Act) (core : Core) (bytes : ℕ → ℕ) → (core_by act core bytes).isa ≡ core.isa
unfolding set_register
by-isa (Make addr len kind) core bytes = refl
by-isa (Set r value undef) core bytes = refl
by-isa (Flip r mask) core bytes = refl
by-isa (Jump target) core bytes = refl
by-isa (FlipPc mask) core bytes = refl
by-isa (Write addr width value) core bytes = refl
by-isa (Turn addr mask) core bytes = refl
by-isa Skip core bytes = refl

pub altered-isa : (s : State) (alteration : Alteration) → (altered s alteration).core.isa ≡ s.core.isa
unfolding altered altered_core
altered-isa s alteration = go (alters alteration.act s.core)
  where
    go : (b : Bool) → (cond b (core_by alteration.act s.core s.bytes) s.core).isa ≡ s.core.isa
    go true = by-isa alteration.act s.core s.bytes
    go false = refl

pub altered-status : (s : State) (alteration : Alteration) → (altered s alteration).core.status ≡ s.core.status
unfolding altered altered_core
altered-status s alteration = go (alters alteration.act s.core)
  where
    go : (b : Bool) → (cond b (core_by alteration.act s.core s.bytes) s.core).status ≡ s.core.status
    go true = by-status alteration.act s.core s.bytes
    go false = refl

-- ---- the bytes of a code that it doesn't write

-- none of the n bytes from start on is one of the code
abbrev pub IsApart : ℕ → Code → ℕ → ℕ → Type 0
IsApart addr code start n = (a : ℕ) → InCode addr code a → is_in start n a ≡ false

swap : (p q : Bool) (x y z : ℕ) → (p ≡ true → q ≡ false) → cond q x (cond p y z) ≡ cond p y (cond q x z)
swap true true x y z h = absurd (true≢false (h refl))
swap true false x y z h = refl
swap false q x y z h = refl

-- byte values with those of the code
abbrev pub poked_bytes : (ℕ → ℕ) → ℕ → Code → ℕ → ℕ
poked_bytes f addr code = written f addr (len_of code) (byte_of (number_of code))

-- other bytes are written before the code or after it
written-apart : (f : ℕ → ℕ) (start n : ℕ) (made : ℕ → ℕ) (addr : ℕ) (code : Code) → IsApart addr code start n
    → written (poked_bytes f addr code) start n made ≡ poked_bytes (written f start n made) addr code
unfolding written changed_in
written-apart f start n made addr code apart =
    fun_ext (λ a. swap (is_in addr (len_of code) a) (is_in start n a) (made (offset start a))
    (byte_of (number_of code) (offset addr a)) (f a) (λ inside. apart a inside))

-- and read before or after
is-above : (start i : ℕ) → i < 4 → is_in start 4 (above start i) ≡ true
is-above start i l = elim (cases_lt start (2 ^ 32)) [
  | inl low ↦ from-low start i low l
  | inr high ↦ from-high start i high l
]
  where
    from-low : (start i : ℕ) → start < 2 ^ 32 → i < 4 → is_in start 4 (above start i) ≡ true
    from-low start i low l = grind (arith, nat_tests)

    from-high : (start i : ℕ) → 2 ^ 32 ≤ start → i < 4 → is_in start 4 (above start i) ≡ true
    from-high start i high l = grind (arith, nat_tests)

window-apart : (f : ℕ → ℕ) (start addr : ℕ) (code : Code) → IsApart addr code start 4
    → window (poked_bytes f addr code) start 4 ≡ window f start 4
unfolding window written changed_in
window-apart f start addr code apart = fun_ext (λ i. go i (nat_lt i 4) refl)
  where
    at : (i : ℕ) → i < 4 → (b : Bool) → is_in addr (len_of code) (above start i) ≡ b
        → cond b (byte_of (number_of code) (offset addr (above start i))) (f (above start i)) ≡ f (above start i)
    at i l true inside = absurd (true≢false (sym (is-above start i l) ∙ apart (above start i) inside))
    at i l false outside = refl

    go : (i : ℕ) (b : Bool) → nat_lt i 4 ≡ b
        → cond b (cond (is_in addr (len_of code) (above start i))
        (byte_of (number_of code) (offset addr (above start i))) (f (above start i))) 0
        ≡ cond b (f (above start i)) 0
    go i true l = at i (let low : i < 4 = grind (arith, nat_tests) in low)
        (is_in addr (len_of code) (above start i)) refl
    go i false l = refl

bytes-poked : (act : Act) (f : ℕ → ℕ) (addr : ℕ) (code : Code)
    → ((a : ℕ) → InCode addr code a → covers (writes_of act) a ≡ false)
    → bytes_by act (poked_bytes f addr code) ≡ poked_bytes (bytes_by act f) addr code
bytes-poked (Make start len kind) f addr code apart = refl
bytes-poked (Set r value undef) f addr code apart = refl
bytes-poked (Flip r mask) f addr code apart = refl
bytes-poked (Jump target) f addr code apart = refl
bytes-poked (FlipPc mask) f addr code apart = refl
bytes-poked (Write start width value) f addr code apart =
    written-apart f start (width_len width) (byte_of value) addr code apart
bytes-poked (Turn start mask) f addr code apart =
    ap (λ w. written (poked_bytes f addr code) start 4 (byte_of (xor_of (little_word w) mask)))
    (window-apart f start addr code apart)
    ∙ written-apart f start 4 (byte_of (xor_of (little_word (window f start 4)) mask)) addr code apart
bytes-poked Skip f addr code apart = refl

-- what it makes of a core, if that isn't decided by byte values
no-halves : (b : Bool) → (b && true) ≡ false → b ≡ false
no-halves true h = h
no-halves false h = refl

pub never-half : (isa : Isa) (first : ℕ) → has_halves isa ≡ false → is_half isa first ≡ false
unfolding has_halves is_half
never-half isa first none = ap (λ compressed. compressed && is_short first) none

core-blind : (act : Act) (core : Core) (f g : ℕ → ℕ) → goes_by_bytes core.isa act ≡ false
    → core_by act core f ≡ core_by act core g
core-blind (Make start len kind) core f g blind = refl
core-blind (Set r value undef) core f g blind = refl
core-blind (Flip r mask) core f g blind = refl
core-blind (Jump target) core f g blind = refl
core-blind (FlipPc mask) core f g blind = refl
core-blind (Write start width value) core f g blind = refl
core-blind (Turn start mask) core f g blind = refl
core-blind Skip core f g blind =
    let none = no-halves (has_halves core.isa) blind in
    ap (λ (b : Bool). passed core (cond b 2 4))
    (never-half core.isa (half_at core f) none ∙ sym (never-half core.isa (half_at core g) none))

-- the code may be poked before the alteration or after it
pub altered-poked : (alteration : Alteration) (s : State) (addr : ℕ) (code : Code)
    → ((a : ℕ) → InCode addr code a → covers (writes_of alteration.act) a ≡ false)
    → goes_by_bytes s.core.isa alteration.act ≡ false
    → altered (poked s addr code) alteration ≡ poked (altered s alteration) addr code
unfolding altered altered_bytes altered_core poked
altered-poked alteration s addr code apart blind =
    λ i. record s {
      bytes = go (alters alteration.act s.core) i;
      core =
          cond (alters alteration.act s.core)
          (core-blind alteration.act s.core (poked_bytes f addr code) f blind i) s.core;
    }
  where
    f : ℕ → ℕ
    f = s.bytes

    go : (b : Bool)
        → cond b (bytes_by alteration.act (poked_bytes f addr code)) (poked_bytes f addr code)
        ≡ poked_bytes (cond b (bytes_by alteration.act f) f) addr code
    go true = bytes-poked alteration.act f addr code apart
    go false = refl
