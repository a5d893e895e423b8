-- Marks that take what others load with, by their numbers.
use Rattle.std.proofs.Common.{◌≡◌, ◌≢◌, ℕ, Bool, List, true, false, refl, ap, ap₂, length, set, slice_index, sym, ◌∙◌}
use Rattle.std.proofs.Common.{◌+◌, ◌*◌, ◌/◌, ◌%◌, ◌-◌, ◌==◌, ◌<◌, ◌≤◌, inl, inr, cond, arith}
use Rattle.std.proofs.lemmas.Bool.{cases_Bool, cases_eq}
use Rattle.std.proofs.lemmas.Bool.Decides.{nat_tests}
use Rattle.std.proofs.lemmas.Grind.{get_or-set_at}
use Rattle.std.proofs.lemmas.List.{get_or-set_other}
use Rattle.shadow_memory.specs.Marks.{mark_of, taken}
use Rattle.shadow_memory.specs.Places.{is_between}
use Rattle.shadow_memory.specs.Parts.{code_of, loaded_code, mark_by, part_of, taken_code}
use Rattle.shadow_memory.specs.declared.cells.RangeKind.{RangeKind}
use Rattle.shadow_memory.specs.declared.cells.RangeKind.TheVariants.{NoAccess, Undefined, Defined}
use Rattle.shadow_memory.proofs.Between.{mark_by-code_of, outside-between, whole-between}
use Rattle.shadow_memory.proofs.Growing.{one-place}

between-start : (at next k : ℕ) → is_between at next k ≡ true → at ≤ k
between-start at next k h = grind (arith, nat_tests)

between-end : (at next k : ℕ) → is_between at next k ≡ true → k < next
between-end at next k h = grind (arith, nat_tests)

-- a run of one number takes another
pub run-taken : (at next k code made : ℕ) (old new : ℕ → ℕ) → ((j : ℕ) → at ≤ j → j < next → old j ≡ code)
    → new k ≡ cond (is_between at next k) (taken_code made code) (old k)
    → new k ≡ cond (is_between at next k) (taken_code made (old k)) (old k)
run-taken at next k code made old new same is = is ∙ elim (cases_Bool (is_between at next k)) [
  | inl h ↦ ap (λ c. cond (is_between at next k) (taken_code made c) (old k))
      (sym (same k (between-start at next k h) (between-end at next k h)))
  | inr h ↦ rw h refl
]

-- and so does one place
pub one-taken : (at k code made : ℕ) (old new : ℕ → ℕ) → code ≡ taken_code made (old at)
    → new k ≡ cond (k == at) code (old k) → new k ≡ cond (is_between at (at + 1) k) (taken_code made (old k)) (old k)
one-taken at k code made old new code-is is =
    run-taken at (at + 1) k (old at) made old new (λ j low high. let here : j ≡ at = omega arith in ap old here)
    (is ∙ ap₂ (λ (b : Bool) (c : ℕ). cond b c (old k)) (sym (one-place at k)) code-is)

was-before : (from at next k : ℕ) → is_between at next k ≡ true → is_between from at k ≡ false
was-before from at next k h = grind (arith, nat_tests)

-- places that took a number up to one, and from there on
pub take-joins : (from at next k made old now new : ℕ) → from ≤ at → at ≤ next
    → now ≡ cond (is_between from at k) (taken_code made old) old
    → new ≡ cond (is_between at next k) (taken_code made now) now
    → new ≡ cond (is_between from next k) (taken_code made old) old
take-joins from at next k made old now new order more was is = elim (cases_Bool (is_between at next k)) [
  | inl h ↦
      let same : now ≡ old = was ∙ ap (λ t. cond t (taken_code made old) old) (was-before from at next k h) in
      is ∙ ap (λ t. cond t (taken_code made now) now) h ∙ ap (taken_code made) same
      ∙ sym (ap (λ t. cond t (taken_code made old) old) (whole-between from at next k order h))
  | inr h ↦ is ∙ ap (λ t. cond t (taken_code made now) now) h ∙ was
      ∙ ap (λ t. cond t (taken_code made old) old) (outside-between from at next k order more h)
]

by-tests : (kind : RangeKind) (a b c : Bool) (partly : ℕ)
    → mark_by (cond a 0 (loaded_code (code_of kind))) partly
    ≡ taken (mark_of kind) (cond a (mark_of NoAccess)
    (cond b (mark_of Undefined) (cond c (mark_of Defined) (record { accessible = true; undef = partly }))))
by-tests NoAccess true b c partly = refl
by-tests NoAccess false true c partly = refl
by-tests NoAccess false false true partly = refl
by-tests NoAccess false false false partly = refl
by-tests Undefined true b c partly = refl
by-tests Undefined false true c partly = refl
by-tests Undefined false false true partly = refl
by-tests Undefined false false false partly = refl
by-tests Defined true b c partly = refl
by-tests Defined false true c partly = refl
by-tests Defined false false true partly = refl
by-tests Defined false false false partly = refl

by-kind : (kind : RangeKind) (code partly : ℕ)
    → mark_by (taken_code (loaded_code (code_of kind)) code) partly ≡ taken (mark_of kind) (mark_by code partly)
by-kind kind code partly = by-tests kind (code == 0) (code == 1) (code == 2) partly

-- a mark that took what one of a kind loads with
pub taken-mark : (b : Bool) (kind : RangeKind) (code new partly : ℕ)
    → new ≡ cond b (taken_code (loaded_code (code_of kind)) code) code
    → mark_by new partly ≡ cond b (taken (mark_of kind) (mark_by code partly)) (mark_by code partly)
taken-mark true kind code new partly is = ap (λ c. mark_by c partly) is ∙ by-kind kind code partly
taken-mark false kind code new partly is = ap (λ c. mark_by c partly) is

kind-of : (code : ℕ) → code < 3 → (kind : RangeKind) × (code ≡ code_of kind)
kind-of code small = elim (cases_eq code 0) [
  | inl e ↦ (NoAccess, e)
  | inr some ↦ elim (cases_eq code 1) [
    | inl e ↦ (Undefined, e)
    | inr more ↦ (Defined, omega arith)
  ]
]

by-code : (source code other partly : ℕ) → source < 3
    → mark_by (taken_code (loaded_code source) code) partly ≡ taken (mark_by source other) (mark_by code partly)
by-code source code other partly small =
    let kind = kind-of source small in
    ap (λ c. mark_by (taken_code (loaded_code c) code) partly) kind.1 ∙ by-kind kind.0 code partly
    ∙ ap (λ m. taken m (mark_by code partly)) (sym (ap (λ c. mark_by c other) kind.1 ∙ mark_by-code_of kind.0 other))

-- and one that took what another loads with, which isn't one of a byte defined in part
pub copied-mark : (b : Bool) (source code new other partly : ℕ) → (b ≡ true → source < 3)
    → new ≡ cond b (taken_code (loaded_code source) code) code
    → mark_by new partly ≡ cond b (taken (mark_by source other) (mark_by code partly)) (mark_by code partly)
copied-mark true source code new other partly small is =
    ap (λ c. mark_by c partly) is ∙ by-code source code other partly (small refl)
copied-mark false source code new other partly small is = ap (λ c. mark_by c partly) is

copied-near : (at count from k : ℕ) → is_between at (at + count) k ≡ true → k - at < count
copied-near at count from k h = grind (arith, nat_tests)

pub copied-inside : (at count from k : ℕ) (codes : ℕ → ℕ) → ((j : ℕ) → from ≤ j → j < from + count → codes j < 3)
    → is_between at (at + count) k ≡ true → codes (from + (k - at)) < 3
copied-inside at count from k codes whole h =
    let near = copied-near at count from k h in
    whole (from + (k - at)) (omega arith) (omega arith)

-- places that took what a run of others load as
pub run-copied : (at n from k made : ℕ) (source old new : ℕ → ℕ)
    → ((j : ℕ) → from ≤ j → j < from + n → source j ≡ source from)
    → made ≡ loaded_code (source from) → new k ≡ cond (is_between at (at + n) k) (taken_code made (old k)) (old k)
    → new k ≡ cond (is_between at (at + n) k) (taken_code (loaded_code (source (from + (k - at)))) (old k)) (old k)
run-copied at n from k made source old new same made-is is = is ∙ elim (cases_Bool (is_between at (at + n) k)) [
  | inl h ↦
      let near = copied-near at n from k h in
      ap (λ m. cond (is_between at (at + n) k) (taken_code m (old k)) (old k)) (made-is
      ∙ ap loaded_code (sym (same (from + (k - at)) (omega arith) (omega arith))))
  | inr h ↦ rw h refl
]

four-inside : (at k : ℕ) → at % 4 ≡ 0 → k / 4 ≡ at / 4 → is_between at (at + 4) k ≡ true
four-inside at k aligned here = grind (arith, nat_tests)

four-outside : (at k : ℕ) → at % 4 ≡ 0 → k / 4 ≢ at / 4 → is_between at (at + 4) k ≡ false
four-outside at k aligned away = grind (arith, nat_tests)

-- a byte whose four numbers are one
pub four-alike : (code place : ℕ) → code < 4 → place < 4 → part_of (code * 85) place ≡ code
four-alike code place small within = grind (arith, nat_tests)

-- the four numbers in a byte that took what those in another load as
pub four-copied : (packed source : List ℕ) (at from made : ℕ) → at % 4 ≡ 0 → from % 4 ≡ 0 → at / 4 < length packed
    → ((k : ℕ) → k < 4 → part_of made k ≡ taken_code (loaded_code (part_of (slice_index source (from / 4)) k))
    (part_of (slice_index packed (at / 4)) k))
    → (k : ℕ) → part_of (slice_index (set packed (at / 4) made) (k / 4)) (k % 4)
    ≡ cond (is_between at (at + 4) k)
    (taken_code (loaded_code (part_of (slice_index source ((from + (k - at)) / 4)) ((from + (k - at)) % 4)))
    (part_of (slice_index packed (k / 4)) (k % 4)))
    (part_of (slice_index packed (k / 4)) (k % 4))
four-copied packed source at from made aligned from-aligned within is k = elim (cases_eq (k / 4) (at / 4)) [
  | inl here ↦
      let byte : (from + (k - at)) / 4 ≡ from / 4 = omega arith in
      let place : (from + (k - at)) % 4 ≡ k % 4 = omega arith in
      let small : k % 4 < 4 = omega arith in
      ap (λ b. part_of b (k % 4)) (ap (slice_index (set packed (at / 4) made)) here
      ∙ get_or-set_at packed (at / 4) (at / 4) made 0 refl within) ∙ is (k % 4) small
      ∙ ap₂ (λ s t. taken_code (loaded_code s) t) (sym (ap₂ (λ b p. part_of (slice_index source b) p) byte place))
      (ap (λ b. part_of (slice_index packed b) (k % 4)) (sym here))
      ∙ sym
      (ap (λ b. cond b (taken_code (loaded_code
      (part_of (slice_index source ((from + (k - at)) / 4)) ((from + (k - at)) % 4)))
      (part_of (slice_index packed (k / 4)) (k % 4)))
      (part_of (slice_index packed (k / 4)) (k % 4)))
      (four-inside at k aligned here))
  | inr away ↦
      ap (λ b. part_of b (k % 4)) (get_or-set_other packed (at / 4) (k / 4) made 0 away)
      ∙ sym
      (ap (λ b. cond b (taken_code (loaded_code
      (part_of (slice_index source ((from + (k - at)) / 4)) ((from + (k - at)) % 4)))
      (part_of (slice_index packed (k / 4)) (k % 4)))
      (part_of (slice_index packed (k / 4)) (k % 4)))
      (four-outside at k aligned away))
]
