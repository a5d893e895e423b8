-- Bytes read in a part of a list.
use Rattle.std.proofs.Common.{◌≡◌, ℕ, List, length, get_or, take, drop, ap, sym, ◌∙◌, ◌+◌, ◌-◌, ◌<◌, ◌≤◌, ◌⊎◌, inl, inr}
use Rattle.std.proofs.Common.{arith, slice_index}
use Rattle.std.proofs.lemmas.Bool.{cases_lt}
use Rattle.std.proofs.lemmas.List.{get_or-drop, get_or-take, get_or_past}
use Rattle.std.proofs.Math.ListN.{length-drop, length-take}

pub length-part : (xs : List ℕ) (d n : ℕ) → d + n ≤ length xs → length (take (d + n - d) (drop d xs)) ≡ n
length-part xs d n h = simp (length-take, length-drop) (omega arith)

pub part-read : (xs : List ℕ) (d n i : ℕ) → i < n
    → slice_index (take (d + n - d) (drop d xs)) i ≡ slice_index xs (d + i)
part-read xs d n i below = get_or-take (d + n - d) (drop d xs) i 0 (omega arith) ∙ get_or-drop d xs i 0

pub rest-read : (xs : List ℕ) (d m i : ℕ) → m ≤ length xs → (m ≡ d) ⊎ ((m ≡ length xs) × (m ≤ d))
    → slice_index (take (length xs - m) (drop m xs)) i ≡ slice_index xs (d + i)
rest-read xs d m i within how = elim (cases_lt i (length xs - m)) [
  | inl near ↦ get_or-take (length xs - m) (drop m xs) i 0 near ∙ get_or-drop m xs i 0 ∙ elim how [
    | inl here ↦ ap (λ k. get_or xs (k + i) 0) here
    | inr all ↦ absurd (let e : m ≡ length xs = all.0 in omega arith)
  ]
  | inr far ↦ get_or_past (take (length xs - m) (drop m xs)) i 0 (simp (length-take, length-drop) (omega arith))
      ∙ sym (elim how [
        | inl here ↦ get_or_past xs (d + i) 0 (omega arith)
        | inr all ↦ let e : m ≡ length xs = all.0 in let f : m ≤ d = all.1 in get_or_past xs (d + i) 0 (omega arith)
      ])
]

pub between-read : (xs : List ℕ) (from to k : ℕ) → from ≤ k → k < to
    → slice_index (take (to - from) (drop from xs)) (k - from) ≡ slice_index xs k
between-read xs from to k low high =
    let there : from + (k - from) ≡ k = omega arith in
    get_or-take (to - from) (drop from xs) (k - from) 0 (omega arith) ∙ get_or-drop from xs (k - from) 0
    ∙ ap (λ i. get_or xs i 0) there
