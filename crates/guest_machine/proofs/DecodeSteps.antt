-- What a change of memory leaves of the codes that were decoded.
use Rattle.std.proofs.Common.{◌≡◌, ℕ, zero, suc, ◌+◌, ◌-◌, ◌/◌, ◌%◌, ◌^◌, ◌<◌, ◌≤◌, ◌⊎◌, inl, inr, Bool, true, false}
use Rattle.std.proofs.Common.{not, cond}
use Rattle.std.proofs.Common.{refl, sym, ap, ap₂, ◌∙◌, subst, nat_lt, arith}
use Rattle.std.proofs.Common.{List, [], ◌∷◌, ◌++◌, Option, Some, None, IfSome, length, slice_set}
use Rattle.std.proofs.Common.{get_or-set_same, get_or-set_other, replicate, take, take_all}
use Rattle.std.proofs.Common.{if◌then◌else◌}
use Rattle.std.proofs.Math.Path.{fun_ext}
use Rattle.std.proofs.lemmas.Bool.{cases_eq, cases_lt}
use Rattle.std.proofs.lemmas.Bool.Decides.{nat_tests}
use Rattle.shadow_memory.specs.Ranges.{above, offset, is_in, changed_in, first_from, little_word, window}
use Rattle.shadow_memory.specs.Shadows.{Shadow, address_at, first_inaccessible, loaded_undef}
use Rattle.guest_elf.specs.Profiles.{is_short}
use Rattle.instructions.specs.Codes.{code_of, row_of_code}
use Rattle.guest_machine.specs.DecodeCaches.{place_of, no_entry, entry_at, IsEntry, IsEntryAt, AreEntries, HasRow}
use Rattle.guest_machine.specs.DecodeCaches.{HasEach, IsClear, AreLeft, AreLeftBut, ArePlaced, IsCodeLen, IsLeft}
use Rattle.guest_machine.specs.DecodeCaches.{IsLeftBut}
use Rattle.instructions.specs.declared.instruction.Instruction.{Instruction}
use Rattle.guest_machine.specs.declared.decode_cache.Decoded.{Decoded}

-- a function that was changed at n addresses from one on is the same elsewhere
pub unchanged : {X : Type 0} (f : ℕ → X) (start n : ℕ) (change : ℕ → X → X) (a : ℕ) → is_in start n a ≡ false
    → changed_in f start n change a ≡ f a
unfolding changed_in
unchanged f start n change a out = ap (λ b. cond b (change (offset start a) (f a)) (f a)) out

-- two functions have the same at the bytes of a code
abbrev SameIn : {X : Type 0} → (ℕ → X) → (ℕ → X) → ℕ → ℕ → Type 0
SameIn f g a len = (i : ℕ) → i < len → g (a + i) ≡ f (a + i)

flat : (a i len : ℕ) → a + len ≤ 2 ^ 32 → i < len → above a i ≡ a + i
flat a i len fits low = omega (arith, fits, low)

window-same : (f g : ℕ → ℕ) (a len : ℕ) → a + len ≤ 2 ^ 32 → SameIn f g a len → window g a len ≡ window f a len
unfolding window
window-same f g a len fits same = fun_ext (λ i. go i (nat_lt i len) refl)
  where
    go : (i : ℕ) (b : Bool) → nat_lt i len ≡ b → cond b (g (above a i)) 0 ≡ cond b (f (above a i)) 0
    go i false k = refl
    go i true k =
        let low : i < len = grind (arith, nat_tests) in
        ap g (flat a i len fits low) ∙ same i low ∙ ap f (sym (flat a i len fits low))

pub first-same : (p q : ℕ → Bool) (k n : ℕ) → ((i : ℕ) → k ≤ i → i < k + n → q i ≡ p i)
    → first_from q k n ≡ first_from p k n
unfolding first_from
first-same p q k zero same = refl
first-same p q k (suc n) same =
    ap₂ (λ b (rest : Option ℕ). cond b (Some k) rest) (same k (omega arith) (omega arith))
    (first-same p q (suc k) n (λ i low high. same i (omega (arith, low)) (omega (arith, high))))

-- a memory that is the same at a code's bytes has what the code decodes to
row-kept : (bytes after : ℕ → ℕ) (shadows later : ℕ → Shadow) (len a : ℕ) (row : Instruction) → a + len ≤ 2 ^ 32
    → SameIn bytes after a len → SameIn shadows later a len → HasRow bytes shadows len a row
    → HasRow after later len a row
unfolding first_inaccessible
row-kept bytes after shadows later len a row fits same same_shadows has =
    let codes = window-same bytes after a len fits same in
    record {
      row = ap (λ f. row_of_code (code_of len (little_word f))) codes ∙ has.row;
      length = ap (λ f. is_short (little_word f)) codes ∙ has.length;
      undef =
          ap little_word (window-same (λ b. loaded_undef (shadows b)) (λ b. loaded_undef (later b)) a len fits
          (λ i low. ap loaded_undef (same_shadows i low))) ∙ has.undef;
      bad =
          ap (address_at a) (first-same _ _ 0 len (λ i up low.
          ap (λ (s : Shadow). not s.accessible)
          (ap later (flat a i len fits (omega (arith, low))) ∙ same_shadows i (omega (arith, low))
          ∙ ap shadows (sym (flat a i len fits (omega (arith, low))))))) ∙ has.bad;
    }

-- a memory is the same outside of n bytes from an address on
abbrev pub SameOutside : {X : Type 0} → (ℕ → X) → (ℕ → X) → ℕ → ℕ → Type 0
SameOutside f g start n = (a : ℕ) → is_in start n a ≡ false → g a ≡ f a

pub fewer : {X : Type 0} (f g : ℕ → X) (start k n : ℕ) → k ≤ n → SameOutside f g start k → SameOutside f g start n
fewer f g start k n less same a out = same a (grind (arith, nat_tests))

-- so it has the code of each entry that is left
pub each-kept : (bytes after : ℕ → ℕ) (shadows later : ℕ → Shadow) (len : ℕ) (old new : List Decoded)
    (start n low high : ℕ) → AreEntries len old low high → high ≤ 2 ^ 32 → AreLeft old new start n len
    → SameOutside bytes after start n → SameOutside shadows later start n → HasEach bytes shadows len old
    → HasEach after later len new
each-kept bytes after shadows later len old new start n low high right ends left same same_shadows has k is =
    let here = left k is in
    let was : IsEntry (entry_at old k) = ap (λ (e : Decoded). e.addr % 2) (sym here.same) ∙ is in
    let clear : IsClear start n len (entry_at old k).addr =
    subst (λ (e : Decoded). IsClear start n len e.addr) here.same here.clear in
    let entry = right k was in
    subst (λ (e : Decoded). HasRow after later len e.addr e.row) (sym here.same)
    (row-kept bytes after shadows later len (entry_at old k).addr (entry_at old k).row
    (omega (arith, entry.below, ends)) (λ i less. same _ (clear i less)) (λ i less. same_shadows _ (clear i less))
    (has k was))

none-at : (k : ℕ) → entry_at [] k ≡ no_entry
none-at zero = refl
none-at (suc k) = refl

-- an emptied table has no entry
pub no-entries : (entries : List Decoded) → entries ≡ [] → (k : ℕ) → IsEntry (entry_at entries k) → ⊥
no-entries entries e k is =
    let one : 1 % 2 ≡ 0 = subst (λ (x : Decoded). IsEntry x) (ap (λ xs. entry_at xs k) e ∙ none-at k) is in
    omega (arith, one)

-- more places, in which there is no entry, change nothing
more : (entries : List Decoded) (n k : ℕ) → entry_at (entries ++ replicate n no_entry) k ≡ entry_at entries k
more [] zero k = refl
more [] (suc n) zero = refl
more [] (suc n) (suc k) = more [] n k ∙ none-at k
more (x ∷ xs) n zero = refl
more (x ∷ xs) n (suc k) = more xs n k

pub grown : (old new : List Decoded) (n m : ℕ) (made : Bool) → length old ≤ n
    → new ≡ (if made then take n old ++ replicate m no_entry else old) → (k : ℕ) → entry_at new k ≡ entry_at old k
grown old new n m false few e k = ap (λ xs. entry_at xs k) e
grown old new n m true few e k =
    ap (λ xs. entry_at xs k) e
    ∙ ap (λ xs. entry_at (xs ++ replicate m no_entry) k) (take_all n old few)
    ∙ more old m k

-- an entry is written at a place, or there is no room: what is at another place stays
pub written-or-kept : (old mid new : List Decoded) (place : ℕ) (entry : Decoded) (within : Bool)
    → ((k : ℕ) → entry_at mid k ≡ entry_at old k) → nat_lt place (length mid) ≡ within
    → new ≡ (if within then slice_set mid place entry else mid) → (k : ℕ)
    → (entry_at new k ≡ entry_at old k) ⊎ ((k ≡ place) × (entry_at new k ≡ entry))
written-or-kept old mid new place entry false same past is k = inl (ap (λ xs. entry_at xs k) is ∙ same k)
written-or-kept old mid new place entry true same within is k =
    let there : place < length mid = grind (arith, nat_tests) in
    elim (cases_eq k place) [
      | inl here ↦ inr (
        here,
        ap (λ xs. entry_at xs k) is ∙ ap (entry_at (slice_set mid place entry)) here
            ∙ get_or-set_same mid place entry no_entry there,
      )
      | inr other ↦ inl (ap (λ xs. entry_at xs k) is ∙ get_or-set_other mid place k entry no_entry other ∙ same k)
    ]

-- a table with an entry more is right within bounds that have its code
pub put-right : (len : ℕ) (old new : List Decoded) (low high low_then high_then : ℕ) (entry : Decoded)
    → ((k : ℕ) → (entry_at new k ≡ entry_at old k) ⊎ ((k ≡ place_of len entry.addr) × (entry_at new k ≡ entry)))
    → low_then ≤ low → low_then ≤ entry.addr → high ≤ high_then → entry.addr + len ≤ high_then
    → AreEntries len old low high → AreEntries len new low_then high_then
put-right len old new low high low_then high_then entry are lower least higher most right k is = elim (are k) [
  | inl same ↦
      let was = right k (subst IsEntry same is) in
      subst (IsEntryAt len k low_then high_then) (sym same) (record {
        place = was.place;
        above = omega (arith, was.above, lower);
        below = omega (arith, was.below, higher);
      })
  | inr new ↦ subst (IsEntryAt len k low_then high_then) (sym (new.1)) (record {
    place = sym (new.0);
    above = least;
    below = most;
  })
]

-- a table within wider bounds
pub wider-right : (len : ℕ) (entries : List Decoded) (low high low_then high_then : ℕ) → low_then ≤ low
    → high ≤ high_then → AreEntries len entries low high → AreEntries len entries low_then high_then
wider-right len entries low high low_then high_then lower higher right k is =
    let was = right k is in
    record {
      place = was.place;
      above = omega (arith, was.above, lower);
      below = omega (arith, was.below, higher);
    }

-- a table with fewer entries
pub left-right : (len : ℕ) (old new : List Decoded) (low high : ℕ)
    → ((k : ℕ) → IsEntry (entry_at new k) → entry_at new k ≡ entry_at old k) → AreEntries len old low high
    → AreEntries len new low high
left-right len old new low high left right k is =
    subst (IsEntryAt len k low high) (sym (left k is)) (right k (subst IsEntry (left k is) is))

-- an entry is put in whose code the memory has
pub put-kept : (bytes : ℕ → ℕ) (shadows : ℕ → Shadow) (len : ℕ) (old new : List Decoded) (entry : Decoded)
    → ((k : ℕ) → IsEntry (entry_at new k) → (entry_at new k ≡ entry_at old k) ⊎ (entry_at new k ≡ entry))
    → HasRow bytes shadows len entry.addr entry.row → HasEach bytes shadows len old → HasEach bytes shadows len new
put-kept bytes shadows len old new entry are has each k is = elim (are k is) [
  | inl same ↦
      subst (λ (e : Decoded). HasRow bytes shadows len e.addr e.row) (sym same) (each k (subst IsEntry same is))
  | inr new ↦ subst (λ (e : Decoded). HasRow bytes shadows len e.addr e.row) (sym new) has
]

-- the instruction in the place of an address is decoded from the code there
pub decoded-has : (bytes : ℕ → ℕ) (shadows : ℕ → Shadow) (len : ℕ) (entries : List Decoded) (a : ℕ)
    (found : Option Instruction) → a % 2 ≡ 0 → HasEach bytes shadows len entries
    → IfSome found (λ row. (row ≡ (entry_at entries (place_of len a)).row)
    × ((entry_at entries (place_of len a)).addr ≡ a)) → IfSome found (λ row. HasRow bytes shadows len a row)
decoded-has bytes shadows len entries a None aligned each is = tt
decoded-has bytes shadows len entries a (Some row) aligned each is =
    let entry : IsEntry (entry_at entries (place_of len a)) = ap (λ n. n % 2) (is.1) ∙ aligned in
    subst (λ (r : Instruction). HasRow bytes shadows len a r) (sym (is.0))
    (subst (λ n. HasRow bytes shadows len n (entry_at entries (place_of len a)).row) (is.1)
    (each (place_of len a) entry))

-- ---- entries whose codes have bytes of a range

-- a code from one address on, and n bytes from another on, of which one ends before the other begins
pub apart : (start n len a : ℕ) → start + n < 2 ^ 32 → (start + n ≤ a) ⊎ (a + len ≤ start) → IsClear start n len a
apart start n len a flat (inl after) i less = grind (arith, nat_tests)
apart start n len a flat (inr before) i less = grind (arith, nat_tests)

none-left : (entry : Decoded) → entry ≡ no_entry → IsEntry entry → ⊥
none-left entry e is = let one : 1 % 2 ≡ 0 = subst IsEntry e is in omega (arith, one)

-- nothing is removed at first
pub left-begun : (start n len from : ℕ) (entries : List Decoded) → AreLeftBut entries entries start n len from from
left-begun start n len from entries k is = record { same = refl; clear = λ up low. absurd (omega (arith, up, low)) }

-- another number of places
pub left-more : (old mid new : List Decoded) (start n len from to : ℕ) → AreLeftBut old mid start n len from to
    → AreLeftBut mid new start n len to (to + 1) → AreLeftBut old new start n len from (to + 1)
left-more old mid new start n len from to before here k is =
    let now = here k is in
    let was = before k (subst IsEntry now.same is) in
    record {
      same = now.same ∙ was.same;
      clear = λ up low. elim (cases_lt ((entry_at new k).addr / len) to) [
        | inl below ↦ subst (λ (e : Decoded). IsClear start n len e.addr) (sym now.same)
            (was.clear (subst (λ (e : Decoded). from ≤ e.addr / len) now.same up)
            (subst (λ (e : Decoded). e.addr / len < to) now.same below))
        | inr past ↦ now.clear past low
      ];
    }

-- codes of other numbers lie apart
left-but : (old new : List Decoded) (start n len k : ℕ) → start + n < 2 ^ 32
    → IsLeftBut old new start n len ((start - len) / len) ((start + n) / len + 1) k
    → ((entry_at new k).addr / len < (start - len) / len → (entry_at new k).addr + len ≤ start)
    → ((start + n) / len + 1 ≤ (entry_at new k).addr / len → start + n ≤ (entry_at new k).addr)
    → IsLeft old new start n len k
left-but old new start n len k flat here before after = record {
  same = here.same;
  clear = elim (cases_lt ((entry_at new k).addr / len) ((start - len) / len)) [
    | inl low ↦ apart start n len (entry_at new k).addr flat (inr (before low))
    | inr up ↦ elim (cases_lt ((entry_at new k).addr / len) ((start + n) / len + 1)) [
      | inl within ↦ here.clear up within
      | inr high ↦ apart start n len (entry_at new k).addr flat (inl (after high))
    ]
  ];
}

below-four : (a start : ℕ) → a / 4 < (start - 4) / 4 → a + 4 ≤ start
below-four a start h = omega arith

above-four : (a past : ℕ) → past / 4 + 1 ≤ a / 4 → past ≤ a
above-four a past h = omega arith

below-two : (a start : ℕ) → a / 2 < (start - 2) / 2 → a + 2 ≤ start
below-two a start h = omega arith

above-two : (a past : ℕ) → past / 2 + 1 ≤ a / 2 → past ≤ a
above-two a past h = omega arith

pub left-all : (old new : List Decoded) (start n len : ℕ) → IsCodeLen len → start + n < 2 ^ 32
    → AreLeftBut old new start n len ((start - len) / len) ((start + n) / len + 1) → AreLeft old new start n len
left-all old new start n len (inl four) flat left k is =
    let Of : ℕ → Type 0 = λ l. IsLeftBut old new start n l ((start - l) / l) ((start + n) / l + 1) k in
    subst (λ l. IsLeft old new start n l k) (sym four)
    (left-but old new start n 4 k flat (subst Of four (left k is)) (below-four _ start) (above-four _ (start + n)))
left-all old new start n len (inr two) flat left k is =
    let Of : ℕ → Type 0 = λ l. IsLeftBut old new start n l ((start - l) / l) ((start + n) / l + 1) k in
    subst (λ l. IsLeft old new start n l k) (sym two)
    (left-but old new start n 2 k flat (subst Of two (left k is)) (below-two _ start) (above-two _ (start + n)))

-- an entry at one number of places is removed if its code has one of the bytes
pub dropped-at : (old new : List Decoded) (start n len number place : ℕ) (met : Bool) → number % 4096 ≡ place
    → ArePlaced len old → (met ≡ false → IsClear start n len (entry_at old place).addr)
    → new ≡ (if met then slice_set old place no_entry else old) → (met ≡ true → place < length old)
    → AreLeftBut old new start n len number (number + 1)
dropped-at old new start n len number place false at placed clear is within k is-entry =
    let same : entry_at new k ≡ entry_at old k = ap (λ xs. entry_at xs k) is in
    record {
      same = same;
      clear = λ up low.
          let here : (entry_at new k).addr / len ≡ number = omega (arith, up, low) in
          let there : k ≡ place = sym (placed k (subst IsEntry same is-entry))
          ∙ ap (λ (e : Decoded). e.addr / len % 4096) (sym same) ∙ ap (λ m. m % 4096) here ∙ at in
          subst (λ (e : Decoded). IsClear start n len e.addr) (sym (same ∙ ap (entry_at old) there)) (clear refl);
    }
dropped-at old new start n len number place true at placed clear is within k is-entry = elim (cases_eq k place) [
  | inl here ↦
      absurd (none-left (entry_at new k)
      (ap (λ xs. entry_at xs k) is ∙ ap (entry_at (slice_set old place no_entry)) here
      ∙ get_or-set_same old place no_entry no_entry (within refl)) is-entry)
  | inr other ↦
      let same : entry_at new k ≡ entry_at old k = ap (λ xs. entry_at xs k) is
      ∙ get_or-set_other old place k no_entry no_entry other in
      record {
        same = same;
        clear = λ up low.
            let here : (entry_at new k).addr / len ≡ number = omega (arith, up, low) in
            absurd (other (sym (placed k (subst IsEntry same is-entry))
            ∙ ap (λ (e : Decoded). e.addr / len % 4096) (sym same) ∙ ap (λ m. m % 4096) here ∙ at));
      }
]
