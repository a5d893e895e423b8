-- Bytes of one memory that are those of another, from page to page.
use Rattle.std.proofs.Common.{◌≡◌, ℕ, Bool, true, false, cond, not, ◌&&◌, ◌||◌, ◌==◌, refl, ap, sym, ◌∙◌, ◌+◌, ◌-◌}
use Rattle.std.proofs.Common.{◌/◌, ◌%◌, ◌^◌, ◌<◌, ◌≤◌, nat_lt, inl, inr, arith, List, take, drop, slice_index}
use Rattle.std.proofs.Math.Path.{fun_ext}
use Rattle.std.proofs.lemmas.Bool.{cases_lt}
use Rattle.std.proofs.lemmas.Bool.Decides.{nat_tests}
use Rattle.shadow_memory.specs.Cells.{shadow_in}
use Rattle.shadow_memory.specs.Comparisons.{AreBytesOf, HaveBytesOf}
use Rattle.shadow_memory.specs.Ranges.{above, little_word, window}
use Rattle.shadow_memory.specs.Shadows.{Shadow, address_at, first_inaccessible, is_bad, loaded_undef, HasDefined}
use Rattle.shadow_memory.specs.declared.cells.Cell.{Cell}
use Rattle.shadow_memory.proofs.Parts.{between-read}
use Rattle.shadow_memory.proofs.Searching.{first_from-none}

module _ (cells seen others seen-there : ℕ → Cell) (at n : ℕ) (page : at % 4096 + n ≤ 4096)
    (same : (a : ℕ) → a / 4096 ≡ at / 4096 → cells a ≡ seen (a % 4096))
    (same-there : (a : ℕ) → a / 4096 ≡ at / 4096 → others a ≡ seen-there (a % 4096)) where
  -- another page is compared
  pub page-more : (from : ℕ) → HaveBytesOf seen seen-there (at % 4096) (at % 4096 + n)
      → HaveBytesOf cells others from at → HaveBytesOf cells others from (at + n)
  page-more from here before = record {
    fine = λ k start below. elim (cases_lt k at) [
      | inl early ↦ before.fine k start early
      | inr late ↦
          let j : ℕ = k - at in
          let there : k / 4096 ≡ at / 4096 = omega arith in
          let place : k % 4096 ≡ at % 4096 + j = omega arith in
          ap (λ c. is_bad true (shadow_in c)) (same k there ∙ ap seen place)
          ∙ here.fine (at % 4096 + j) (omega arith) (omega arith)
    ];
    bytes = λ k start below. elim (cases_lt k at) [
      | inl early ↦ before.bytes k start early
      | inr late ↦
          let j : ℕ = k - at in
          let there : k / 4096 ≡ at / 4096 = omega arith in
          let place : k % 4096 ≡ at % 4096 + j = omega arith in
          ap (λ (c : Cell). c.byte) (same k there ∙ ap seen place)
          ∙ here.bytes (at % 4096 + j) (omega arith) (omega arith)
          ∙ ap (λ (c : Cell). c.byte) (sym (same-there k there ∙ ap seen-there place))
    ];
  }

fine-accessible : (s : Shadow) → is_bad true s ≡ false → not s.accessible ≡ false
fine-accessible s h = elim s.accessible as (λ b. (not b || (true && not (s.undef == 0))) ≡ false → not b ≡ false) [
  | true ↦ λ e. refl
  | false ↦ λ e. e
] h

fine-defined : (s : Shadow) → is_bad true s ≡ false → loaded_undef s ≡ 0
fine-defined s h = grind (arith, nat_tests)

-- bytes that are the same give the same number
same-window : (f g : ℕ → ℕ) (a n : ℕ) → a + n ≤ 2 ^ 32 → ((i : ℕ) → i < n → f (a + i) ≡ g (a + i))
    → little_word (window f a n) ≡ little_word (window g a n)
unfolding window
same-window f g a n flat same = ap little_word (fun_ext (λ i. go i (nat_lt i n) refl))
  where
    go : (i : ℕ) (b : Bool) → nat_lt i n ≡ b → cond b (f (above a i)) 0 ≡ cond b (g (above a i)) 0
    go i false k = refl
    go i true k =
        let few : i < n = grind (arith, nat_tests) in
        let here : above a i ≡ a + i = omega arith in
        ap f here ∙ same i few ∙ ap g (sym here)

zero-window : (f : ℕ → ℕ) (a n : ℕ) → a + n ≤ 2 ^ 32 → ((i : ℕ) → i < n → f (a + i) ≡ 0)
    → little_word (window f a n) ≡ 0
unfolding window little_word
zero-window f a n flat zeros =
    let none : window f a n ≡ (λ i. 0) = fun_ext (λ i. go i (nat_lt i n) refl) in ap little_word none
  where
    go : (i : ℕ) (b : Bool) → nat_lt i n ≡ b → cond b (f (above a i)) 0 ≡ 0
    go i false k = refl
    go i true k =
        let few : i < n = grind (arith, nat_tests) in
        let here : above a i ≡ a + i = omega arith in
        ap f here ∙ zeros i few

pub bytes-are : (cells others : ℕ → Cell) (from to a n : ℕ) → to ≤ 2 ^ 32 → HaveBytesOf cells others from to
    → from ≤ a → a + n ≤ to
    → HasDefined (λ k. (cells k).byte) (λ k. shadow_in (cells k)) a n (little_word (window (λ k. (others k).byte) a n))
unfolding first_inaccessible
bytes-are cells others from to a n flat have start below =
    let low : a + n ≤ 2 ^ 32 = omega arith in
    let fine : (i : ℕ) → i < n → is_bad true (shadow_in (cells (a + i))) ≡ false =
    λ i few. have.fine (a + i) (omega arith) (omega arith) in
    record {
      value = same-window (λ k. (cells k).byte) (λ k. (others k).byte) a n low
          (λ i few. have.bytes (a + i) (omega arith) (omega arith));
      undef = zero-window (λ k. loaded_undef (shadow_in (cells k))) a n low
          (λ i few. fine-defined (shadow_in (cells (a + i))) (fine i few));
      bad = ap (address_at a) (first_from-none (λ i. not (cells (above a i)).accessible) 0 n (λ i few.
          let here : above a (0 + i) ≡ a + i = omega arith in
          ap (λ b. not (cells b).accessible) here ∙ fine-accessible (shadow_in (cells (a + i))) (fine i few)));
    }

-- slices that are equal have the same bytes
pub bytes-of-slices : (cells others : ℕ → Cell) (xs ys : List ℕ) (from to : ℕ)
    → ((k : ℕ) → (cells k).byte ≡ slice_index xs k) → ((k : ℕ) → (others k).byte ≡ slice_index ys k)
    → take (to - from) (drop from xs) ≡ take (to - from) (drop from ys) → AreBytesOf cells others from to
bytes-of-slices cells others xs ys from to of-xs of-ys same a start below =
    of-xs a ∙ sym (between-read xs from to a start below)
    ∙ ap (λ (l : List ℕ). slice_index l (a - from)) same ∙ between-read ys from to a start below
    ∙ sym (of-ys a)
