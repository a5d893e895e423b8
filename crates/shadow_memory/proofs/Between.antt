-- Marks from one place on, set part by part.
use Rattle.std.proofs.Common.{◌≡◌, ℕ, Bool, true, false, refl, ap, ◌∙◌, ◌+◌, ◌<◌, ◌≤◌, inl, inr, cond, arith, subst}
use Rattle.std.proofs.lemmas.Bool.{cases_Bool, cases_lt}
use Rattle.std.proofs.lemmas.Bool.Decides.{nat_tests}
use Rattle.shadow_memory.specs.Marks.{mark_of}
use Rattle.shadow_memory.specs.Places.{is_between}
use Rattle.shadow_memory.specs.Parts.{code_of, mark_by}
use Rattle.shadow_memory.specs.declared.cells.RangeKind.{RangeKind}
use Rattle.shadow_memory.specs.declared.cells.RangeKind.TheVariants.{NoAccess, Undefined, Defined}

pub mark_by-code_of : (kind : RangeKind) (partly : ℕ) → mark_by (code_of kind) partly ≡ mark_of kind
mark_by-code_of NoAccess partly = refl
mark_by-code_of Undefined partly = refl
mark_by-code_of Defined partly = refl

-- a kind's number, where a range is set
pub made-mark : (b : Bool) (kind : RangeKind) (code old partly : ℕ) → code ≡ cond b (code_of kind) old
    → mark_by code partly ≡ cond b (mark_of kind) (mark_by old partly)
made-mark true kind code old partly e = ap (λ c. mark_by c partly) e ∙ mark_by-code_of kind partly
made-mark false kind code old partly e = ap (λ c. mark_by c partly) e

join-true : (b c d : Bool) (x y : ℕ) → b ≡ true → d ≡ true → cond b x (cond c x y) ≡ cond d x y
join-true b c d x y e f = rw (e, f) refl

join-false : (b c d : Bool) (x y : ℕ) → b ≡ false → c ≡ d → cond b x (cond c x y) ≡ cond d x y
join-false b c d x y e f = rw (e, f) refl

pub whole-between : (from at next k : ℕ) → from ≤ at → is_between at next k ≡ true → is_between from next k ≡ true
whole-between from at next k order h = grind (arith, nat_tests)

pub outside-between : (from at next k : ℕ) → from ≤ at → at ≤ next → is_between at next k ≡ false
    → is_between from at k ≡ is_between from next k
outside-between from at next k order more h = grind (arith, nat_tests)

-- a range that is set up to a place, and from there on
pub between-joins : (from at next k x y : ℕ) → from ≤ at → at ≤ next
    → cond (is_between at next k) x (cond (is_between from at k) x y) ≡ cond (is_between from next k) x y
between-joins from at next k x y order more = elim (cases_Bool (is_between at next k)) [
  | inl h ↦ join-true _ _ _ x y h (whole-between from at next k order h)
  | inr h ↦ join-false _ _ _ x y h (outside-between from at next k order more h)
]

-- what holds at each place from one up to another, and from there on
pub holds-joins : (P : ℕ → Type 0) (from at next : ℕ) → ((k : ℕ) → from ≤ k → k < at → P k)
    → ((k : ℕ) → at ≤ k → k < next → P k) → (k : ℕ) → from ≤ k → k < next → P k
holds-joins P from at next before here k start below = elim (cases_lt k at) [
  | inl early ↦ before k start early
  | inr late ↦ here k late below
]

-- and at the one after them
pub holds-more : (P : ℕ → Type 0) (from at : ℕ) → ((k : ℕ) → from ≤ k → k < at → P k) → P at
    → (k : ℕ) → from ≤ k → k < at + 1 → P k
holds-more P from at before here k start below = elim (cases_lt k at) [
  | inl early ↦ before k start early
  | inr late ↦
      let same : at ≡ k = omega arith in
      subst P same here
]
