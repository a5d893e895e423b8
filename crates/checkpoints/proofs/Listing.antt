-- A list that grows by at most one element a step, and its first few.
use Rattle.std.proofs.Common.{◌≡◌, ℕ, zero, suc, ◌+◌, ◌-◌, ◌<◌, ◌≤◌, max, nat_lt, true, false}
use Rattle.std.proofs.Common.{List, [], ◌++◌, length, take, Option, Some, None}
use Rattle.std.proofs.Common.{ap, sym, ◌∙◌, arith, inl, inr, add-zero, append-nil, append_assoc}
use Rattle.std.proofs.Common.{length-append}
use Rattle.std.specs.Prelude.{option_to_list}
use Rattle.std.proofs.lemmas.Bool.{cases_lt}
use Rattle.std.proofs.lemmas.Bool.Decides.{nat_tests}
use Rattle.std.proofs.lemmas.List.{take-append-le, take_all}

pub at-most-one : {T : Type 0} (found : Option T) → length (option_to_list found) ≤ 1
at-most-one None = omega arith
at-most-one (Some one) = omega arith

-- another one, of which there are still fewer than there may be
pub still-few : {T : Type 0} (xs ys : List T) (found : Option T) (most : ℕ) → ys ≡ xs ++ option_to_list found
    → length xs < most → (length ys ≡ most → ⊥) → length ys < most
still-few xs ys found most e few other =
    let long = ap length e in
    omega (arith, long, length-append xs (option_to_list found), at-most-one found)

pub is-below : (k from : ℕ) → k < from → nat_lt k from ≡ true
is-below k from l = grind (arith, nat_tests)

pub is-past : (k from : ℕ) → from ≤ k → nat_lt k from ≡ false
is-past k from l = grind (arith, nat_tests)

module _ {T : Type 0} (at : ℕ → Option T) (from : ℕ) (up_to : ℕ → List T)
    (none : (to : ℕ) → to ≤ from → up_to to ≡ [])
    (more : (k : ℕ) → from ≤ k → up_to (k + 1) ≡ up_to k ++ option_to_list (at k)) where
  -- what later steps add
  begins : (k n : ℕ) → from ≤ k → (rest : List T) × (up_to (k + n) ≡ up_to k ++ rest)
  begins k zero l = ([], ap up_to (add-zero k) ∙ sym (append-nil (up_to k)))
  begins k (suc n) l =
      let before = begins k n l in
      let next : k + suc n ≡ k + n + 1 = omega arith in (
        before.0 ++ option_to_list (at (k + n)),
        ap up_to next ∙ more (k + n) (omega arith) ∙ ap (λ xs. xs ++ option_to_list (at (k + n))) before.1
            ∙ append_assoc (up_to k) before.0 (option_to_list (at (k + n))),
      )

  -- as many as there may be are found
  pub enough : (k to most : ℕ) (found : List T) → from ≤ k → k ≤ to → length found ≡ most → found ≡ up_to k
      → found ≡ take most (up_to to)
  enough k to most found l h full is =
      let rest = begins k (to - k) l in
      let end : k + (to - k) ≡ to = omega arith in
      let long : length (up_to k) ≡ most = sym (ap length is) ∙ full in
      is ∙ sym (
      ap (take most) (sym (ap up_to end) ∙ rest.1)
      ∙ take-append-le most (up_to k) rest.0 (omega (arith, long))
      ∙ take_all most (up_to k) (omega (arith, long))
      )

  -- the last step that is looked at
  same-end : (k to : ℕ) → to ≤ k → k ≤ max from to → up_to k ≡ up_to to
  same-end k to h within = elim (cases_lt to from) [
    | inl low ↦ none k (omega arith) ∙ sym (none to (omega arith))
    | inr high ↦ (let end : k ≡ to = omega arith in ap up_to end)
  ]

  -- there are no more
  all-of : (k to most : ℕ) (found : List T) → up_to k ≡ up_to to → length found < most → found ≡ up_to k
      → found ≡ take most (up_to to)
  all-of k to most found same few is =
      let all = is ∙ same in
      let long = ap length all in
      all ∙ sym (take_all most (up_to to) (omega (arith, long)))

  pub ended : (k to most : ℕ) (found : List T) → to ≤ k → k ≤ max from to → length found < most
      → found ≡ up_to k → found ≡ take most (up_to to)
  ended k to most found h within few is = all-of k to most found (same-end k to h within) few is

  -- nothing is added from a step on
  module _ (k : ℕ) (l : from ≤ k) (silent : (j : ℕ) → k ≤ j → at j ≡ None) where
    none-more : (n : ℕ) → up_to (k + n) ≡ up_to k
    none-more zero = ap up_to (add-zero k)
    none-more (suc n) =
        let next : k + suc n ≡ k + n + 1 = omega arith in
        ap up_to next ∙ more (k + n) (omega arith)
        ∙ ap (λ one. up_to (k + n) ++ option_to_list one) (silent (k + n) (omega arith))
        ∙ append-nil (up_to (k + n)) ∙ none-more n

    pub fell-silent : (to most : ℕ) (found : List T) → k ≤ to → length found < most → found ≡ up_to k
        → found ≡ take most (up_to to)
    fell-silent to most found h few is =
        let end : k + (to - k) ≡ to = omega arith in
        all-of k to most found (sym (none-more (to - k)) ∙ ap up_to end) few is
