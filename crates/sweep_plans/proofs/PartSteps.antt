-- The places of the parts of a sweep, one part after another.
use Rattle.std.proofs.Common.{◌≡◌, ℕ, zero, suc, ◌+◌, ◌-◌, ◌*◌, ◌/◌, ◌<◌, ◌≤◌, List, [], ◌∷◌, ◌++◌, ap, ap₂, sym, ◌∙◌}
use Rattle.std.proofs.Common.{append-nil, append_assoc, arith}
use Rattle.std.specs.List.{flat_map}
use Rattle.std.proofs.lemmas.List.Concat.{flat_map-append}
use Rattle.std.proofs.lemmas.Nat.{le-div}
use Rattle.std.proofs.Math.Nat.{div-mul-le_self, mul-div_cancel, mul-le-mul_left, zero-div}
use Rattle.sweep_plans.specs.Laws.{PartsMakeTheWhole, numbers_from, places_of}
use Rattle.sweep_plans.specs.Planned.{first_place}
use Rattle.sweep_plans.specs.Numbers.{below}
use Rattle.sweep_plans.specs.Plans.{place_count}
use Rattle.sweep_plans.specs.declared.plan.Plan.{Plan}

-- numbers from one on, and those after them
numbers-on : (first m n : ℕ) → numbers_from first (m + n) ≡ numbers_from first m ++ numbers_from (first + m) n
unfolding numbers_from
numbers-on first m zero =
    let none : m + 0 ≡ m = omega arith in
    ap (numbers_from first) none ∙ sym (append-nil (numbers_from first m))
numbers-on first m (suc n) =
    let one : m + suc n ≡ suc (m + n) = omega arith in
    let last : first + (m + n) ≡ first + m + n = omega arith in
    ap (numbers_from first) one ∙ (λ i. numbers-on first m n i ++ last i ∷ [])
    ∙ append_assoc (numbers_from first m) (numbers_from (first + m) n) _

-- a part doesn't end before it begins
rising : (places before parts : ℕ) → 0 < parts
    → first_place places before parts ≤ first_place places (before + 1) parts
rising places before parts some =
    let more : places * before ≤ places * (before + 1) = mul-le-mul_left places (omega arith) in
    let low = div-mul-le_self (places * before) parts in
    le-div (places * before / parts) (places * (before + 1)) parts some (omega (arith, more, low))

module _ (plan : Plan) (parts : ℕ) (some : 0 < parts) where
  -- the place at which a part begins, by how many parts come before it
  abbrev start : ℕ → ℕ
  start before = first_place (place_count plan) before parts

  abbrev part : ℕ → List ℕ
  part before = places_of plan (record { index = before + 1; count = parts })

  part-is : (before : ℕ) → part before ≡ numbers_from (start before) (start (before + 1) - start before)
  part-is before =
      let first : before + 1 - 1 ≡ before = omega arith in
      ap (λ b. numbers_from (start b) (start (before + 1) - start b)) first

  -- a number of parts, one after another
  parts-are : (n : ℕ) → flat_map part (below n) ≡ numbers_from 0 (start n)
  unfolding below numbers_from
  parts-are zero =
      let none : place_count plan * 0 ≡ 0 = omega arith in
      ap (numbers_from 0) (sym (ap (λ p. p / parts) none ∙ zero-div parts))
  parts-are (suc n) =
      let begins : 0 + start n ≡ start n = omega arith in
      let up = rising (place_count plan) n parts some in
      let one : n + 1 ≡ suc n = omega arith in
      let ends : start n + (start (n + 1) - start n) ≡ start (n + 1) = omega (arith, up) in
      flat_map-append part (below n) (n ∷ [])
      ∙ ap₂ (λ xs ys. xs ++ ys) (parts-are n) (append-nil (part n) ∙ part-is n
      ∙ ap (λ s. numbers_from s (start (n + 1) - start n)) (sym begins))
      ∙ sym (numbers-on 0 (start n) (start (n + 1) - start n))
      ∙ ap (numbers_from 0) (ends ∙ ap start one)

pub whole-of-parts : PartsMakeTheWhole
whole-of-parts plan parts some =
    parts-are plan parts some parts
    ∙ ap (numbers_from 0) (mul-div_cancel (place_count plan) some)
