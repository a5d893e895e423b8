-- Whether segments share an address: by pairs, and by neighbours in the order of their addresses.
use Rattle.std.proofs.Common.{◌≡◌, ◌⊎◌, inl, inr, ℕ, suc, ◌+◌, ◌<◌, ◌≤◌, min, max, Bool, true, false, cond, ◌&&◌}
use Rattle.std.proofs.Common.{◌||◌, get_or, drop, nat_le, nat_lt, List, []}
use Rattle.std.proofs.Common.{◌∷◌, length, refl, sym, ◌∙◌, ap, arith, All}
use Rattle.std.proofs.Math.Seq.{drop-cons}
use Rattle.std.proofs.lemmas.List.{drop_all}
use Rattle.std.proofs.lemmas.Bool.{or_cases, or_left, or_right, false≢true}
use Rattle.std.proofs.lemmas.Bool.Decides.{nat_tests}
use Rattle.std.proofs.lemmas.List.Elements.{All-head, All-tail}
use Rattle.std.proofs.lemmas.List.Folds.{list_any_none}
use Rattle.std.proofs.lemmas.List.Sorted.{sum_by-IsPermutation, IsPermutation-sym}
use Rattle.std.proofs.lemmas.List.Sums.{sum_by-cons}
use Rattle.std.specs.List.{count_by, list_any}
use Rattle.std.specs.List.Sorted.{IsNonDecreasingBy, IsPermutation}
use Rattle.guest_elf.specs.File.{any_two_meet, segments_meet}
use Rattle.guest_elf.specs.declared.program.ProgramHeader.{ProgramHeader}

-- whether one begins below `end`, or a later one before its predecessor ends
unfoldable pub begins_early : ℕ → List ProgramHeader → Bool
begins_early end [] = false
begins_early end (header ∷ headers) = nat_lt header.vaddr end || begins_early (header.vaddr + header.memsz) headers

-- each has an address, and begins no higher than those after it
abbrev Rising : List ProgramHeader → Type 0
Rising [] = Unit {0}
Rising (header ∷ headers) =
    (0 < header.memsz) × All (λ (g : ProgramHeader). header.vaddr ≤ g.vaddr) headers × Rising headers

rising_from : (headers : List ProgramHeader) → IsNonDecreasingBy (λ (h : ProgramHeader). h.vaddr) headers →
    All (λ (h : ProgramHeader). 0 < h.memsz) headers → Rising headers
rising_from [] up some = tt
rising_from (header ∷ headers) up some = (
  All-head (λ (h : ProgramHeader). 0 < h.memsz) header headers some,
  (λ k d below. up 0 (suc k) d (omega arith) (omega arith)),
  rising_from headers (λ i j d le lt. up (suc i) (suc j) d (omega arith) (omega arith))
      (All-tail (λ (h : ProgramHeader). 0 < h.memsz) header headers some),
)

meets_next : (a m b n : ℕ) → a ≤ b → 0 < n → 0 < m → nat_lt (max a b) (min (a + m) (b + n)) ≡ nat_lt b (a + m)
meets_next a m b n up some here = grind (arith, nat_tests)

meets_none : (a m b n : ℕ) → a + m ≤ b → nat_lt (max a b) (min (a + m) (b + n)) ≡ false
meets_none a m b n past = grind (arith, nat_tests)

not_early : (b end : ℕ) → nat_lt b end ≡ false → end ≤ b
not_early b end e = grind (arith, nat_tests)

none_below_zero : (b : ℕ) → nat_lt b 0 ≡ false
none_below_zero b = grind (arith, nat_tests)

either : (b c d e : Bool) → (b ≡ false → c ≡ false) → d ≡ e → ((b || c) || d) ≡ (b || e)
either true c d e none same = refl
either false c d e none same = ap (λ x. x || d) (none refl) ∙ same

two_meet_is : (header : ProgramHeader) (headers : List ProgramHeader) → Rising (header ∷ headers) →
    any_two_meet (header ∷ headers) ≡ begins_early (header.vaddr + header.memsz) headers
unfolding begins_early segments_meet
two_meet_is header [] rising = refl
two_meet_is header (next ∷ headers) rising =
    let up : header.vaddr ≤ next.vaddr = All-head (λ (g : ProgramHeader). header.vaddr ≤ g.vaddr) next headers
    rising.1 in
    ap (λ b. (b || list_any (segments_meet header) headers) || any_two_meet (next ∷ headers))
    (meets_next header.vaddr header.memsz next.vaddr next.memsz up rising.2.0 rising.0)
    ∙ either (nat_lt next.vaddr (header.vaddr + header.memsz)) (list_any (segments_meet header) headers) _ _
    (λ late. list_any_none (segments_meet header) headers (λ k d below.
    let past : header.vaddr + header.memsz ≤ next.vaddr = not_early _ _ late in
    let higher = rising.2.1 k d below in
    meets_none header.vaddr header.memsz _ _ (omega (arith, higher))))
    (two_meet_is next headers rising.2)

pub two_meet_by_order : (headers : List ProgramHeader) → IsNonDecreasingBy (λ (h : ProgramHeader). h.vaddr) headers →
    All (λ (h : ProgramHeader). 0 < h.memsz) headers → begins_early 0 headers ≡ any_two_meet headers
unfolding begins_early
two_meet_by_order [] up some = refl
two_meet_by_order (header ∷ headers) up some =
    ap (λ b. b || begins_early (header.vaddr + header.memsz) headers) (none_below_zero header.vaddr)
    ∙ sym (two_meet_is header headers (rising_from (header ∷ headers) up some))

-- whether a segment has an address
abbrev has : ℕ → ProgramHeader → Bool
has address header = nat_le header.vaddr address && nat_lt address (header.vaddr + header.memsz)

covers : ℕ → List ProgramHeader → ℕ
covers address headers = count_by (has address) headers

covers_more : (address : ℕ) (header : ProgramHeader) (headers : List ProgramHeader) →
    covers address (header ∷ headers) ≡ cond (has address header) 1 0 + covers address headers
unfolding covers
covers_more address header headers = sum_by-cons (λ (h : ProgramHeader). cond (has address h) 1 0) header headers

covers_none : (address : ℕ) → covers address [] ≡ 0
unfolding covers
covers_none address = refl

covers_same : (address : ℕ) (xs ys : List ProgramHeader) → IsPermutation xs ys → covers address ys ≡ covers address xs
unfolding covers
covers_same address xs ys moved = sum_by-IsPermutation (λ (h : ProgramHeader). cond (has address h) 1 0) xs ys moved

-- an address that both have
shared : (a m b n : ℕ) → nat_lt (max a b) (min (a + m) (b + n)) ≡ true →
    ((nat_le a (max a b) && nat_lt (max a b) (a + m)) ≡ true)
    × ((nat_le b (max a b) && nat_lt (max a b) (b + n)) ≡ true)
shared a m b n meet = (grind (arith, nat_tests), grind (arith, nat_tests))

meets_shared : (a m b n c : ℕ) → (nat_le a c && nat_lt c (a + m)) ≡ true → (nat_le b c && nat_lt c (b + n)) ≡ true →
    nat_lt (max a b) (min (a + m) (b + n)) ≡ true
meets_shared a m b n c here there = grind (arith, nat_tests)

which : (b : Bool) → (b ≡ true) ⊎ (b ≡ false)
which true = inl refl
which false = inr refl

counted : (b : Bool) (n : ℕ) → b ≡ true → cond b 1 0 + n ≡ 1 + n
counted b n e = ap (λ x. cond x 1 0 + n) e

skipped : (b : Bool) (n : ℕ) → b ≡ false → cond b 1 0 + n ≡ n
skipped b n e = ap (λ x. cond x 1 0 + n) e ∙ omega arith

abbrev Shared : ProgramHeader → List ProgramHeader → Type 0
Shared header headers = (address : ℕ) × (has address header ≡ true) × (1 ≤ covers address headers)

one_shared : (header : ProgramHeader) (headers : List ProgramHeader) → list_any (segments_meet header) headers ≡ true
    → Shared header headers
unfolding segments_meet
one_shared header [] meet = absurd (false≢true meet)
one_shared header (other ∷ headers) meet =
    elim (or_cases (segments_meet header other) (list_any (segments_meet header) headers) meet) [
      | inl now ↦
          let both = shared header.vaddr header.memsz other.vaddr other.memsz now in
          let more = covers_more (max header.vaddr other.vaddr) other headers ∙ counted _ _ both.1 in
          (max header.vaddr other.vaddr, both.0, omega (arith, more))
      | inr later ↦
          let found = one_shared header headers later in
          let more = covers_more found.0 other headers in
          (found.0, found.1, omega (arith, more, found.2))
    ]

two_covered : (headers : List ProgramHeader) → any_two_meet headers ≡ true
    → (address : ℕ) × (2 ≤ covers address headers)
two_covered [] meet = absurd (false≢true meet)
two_covered (header ∷ headers) meet =
    elim (or_cases (list_any (segments_meet header) headers) (any_two_meet headers) meet) [
      | inl now ↦
          let found = one_shared header headers now in
          let more = covers_more found.0 header headers ∙ counted _ _ found.1 in
          (found.0, omega (arith, more, found.2))
      | inr later ↦
          let found = two_covered headers later in
          let more = covers_more found.0 header headers in
          (found.0, omega (arith, more, found.1))
    ]

meets_one : (header : ProgramHeader) (headers : List ProgramHeader) (address : ℕ) → has address header ≡ true →
    1 ≤ covers address headers → list_any (segments_meet header) headers ≡ true
unfolding segments_meet
meets_one header [] address here some = absurd (omega (arith, covers_none address))
meets_one header (other ∷ headers) address here some =
    elim (which (has address other)) [
      | inl there ↦ or_left _ _ (meets_shared header.vaddr header.memsz other.vaddr other.memsz address here there)
      | inr apart ↦
          let more = covers_more address other headers ∙ skipped _ _ apart in
          or_right _ _ (meets_one header headers address here (omega (arith, more)))
    ]

two_meet : (headers : List ProgramHeader) (address : ℕ) → 2 ≤ covers address headers → any_two_meet headers ≡ true
two_meet [] address some = absurd (omega (arith, covers_none address))
two_meet (header ∷ headers) address some =
    elim (which (has address header)) [
      | inl here ↦
          let more = covers_more address header headers ∙ counted _ _ here in
          or_left _ _ (meets_one header headers address here (omega (arith, more)))
      | inr apart ↦
          let more = covers_more address header headers ∙ skipped _ _ apart in
          or_right _ _ (two_meet headers address (omega (arith, more)))
    ]

moved_true : (xs ys : List ProgramHeader) → IsPermutation xs ys → any_two_meet xs ≡ true → any_two_meet ys ≡ true
moved_true xs ys moved meet =
    let found = two_covered xs meet in
    let same = covers_same found.0 xs ys moved in
    two_meet ys found.0 (omega (arith, same, found.1))

same_test : (a b : Bool) → (a ≡ true → b ≡ true) → (b ≡ true → a ≡ true) → a ≡ b
same_test true b there back = sym (there refl)
same_test false true there back = back refl
same_test false false there back = refl

-- the order of the segments does not matter
pub two_meet_moved : (xs ys : List ProgramHeader) → IsPermutation xs ys → any_two_meet ys ≡ any_two_meet xs
two_meet_moved xs ys moved = same_test _ _ (moved_true ys xs (IsPermutation-sym xs ys moved)) (moved_true xs ys moved)

early_step : (headers : List ProgramHeader) (i end : ℕ) (d : ProgramHeader) → i < length headers →
    begins_early end (drop i headers)
    ≡ (nat_lt (get_or headers i d).vaddr end || begins_early ((get_or headers i d).vaddr + (get_or headers i d).memsz)
    (drop (i + 1) headers))
unfolding begins_early
early_step headers i end d inside =
    let header = get_or headers i d in
    let next : suc i ≡ i + 1 = omega arith in
    ap (begins_early end) (drop-cons headers i d inside)
    ∙ ap (λ j. nat_lt header.vaddr end || begins_early (header.vaddr + header.memsz) (drop j headers)) next

early_test : (b end : ℕ) → b < end → nat_lt b end ≡ true
early_test b end below = grind (arith, nat_tests)

late_test : (b end : ℕ) → end ≤ b → nat_lt b end ≡ false
late_test b end past = grind (arith, nat_tests)

-- the steps of a loop that keeps the end of the segment before
pub early_found : (headers : List ProgramHeader) (i end : ℕ) (d : ProgramHeader) → i < length headers →
    (get_or headers i d).vaddr < end → begins_early end (drop i headers) ≡ true
early_found headers i end d inside below =
    early_step headers i end d inside
    ∙ ap (λ b. b || begins_early ((get_or headers i d).vaddr + (get_or headers i d).memsz) (drop (i + 1) headers))
    (early_test _ end below)

pub early_next : (headers : List ProgramHeader) (i end : ℕ) (d : ProgramHeader) → i < length headers →
    end ≤ (get_or headers i d).vaddr →
    begins_early end (drop i headers) ≡ begins_early ((get_or headers i d).vaddr + (get_or headers i d).memsz)
    (drop (i + 1) headers)
early_next headers i end d inside past =
    early_step headers i end d inside
    ∙ ap (λ b. b || begins_early ((get_or headers i d).vaddr + (get_or headers i d).memsz) (drop (i + 1) headers))
    (late_test _ end past)

pub early_none : (headers : List ProgramHeader) (i end : ℕ) → length headers ≤ i
    → begins_early end (drop i headers) ≡ false
unfolding begins_early
early_none headers i end past = ap (begins_early end) (drop_all i headers past)
