-- Searches that continue from page to page.
use Rattle.std.proofs.Common.{◌≡◌, ℕ, zero, suc, Bool, true, false, not, ◌&&◌, Some, None, refl, ap, ap₂, sym, ◌∙◌, ◌+◌}
use Rattle.std.proofs.Common.{◌-◌, ◌*◌, ◌/◌, ◌%◌, ◌<◌, ◌≤◌, inl, inr, cond, arith}
use Rattle.std.proofs.lemmas.Bool.{cases_lt}
use Rattle.shadow_memory.specs.Cells.{shadow_in}
use Rattle.shadow_memory.specs.Firsts.{IsFirst, NonePass}
use Rattle.shadow_memory.specs.Ranges.{above, first_from}
use Rattle.shadow_memory.specs.Shadows.{Shadow, bad_at, first_bad, holds_word, is_bad, HoldNoWord, IsNextWord}
use Rattle.shadow_memory.specs.declared.cells.Cell.{Cell}

pick-true : {X : Type 0} (b : Bool) (x y : X) → b ≡ true → cond b x y ≡ x
pick-true b x y h = rw h refl

pick-false : {X : Type 0} (b : Bool) (x y : X) → b ≡ false → cond b x y ≡ y
pick-false b x y h = rw h refl

-- none passes
pub first_from-none : (p : ℕ → Bool) (i n : ℕ) → ((k : ℕ) → k < n → p (i + k) ≡ false) → first_from p i n ≡ None
unfolding first_from
first_from-none p i zero h = refl
first_from-none p i (suc n) h =
    let here : i + 0 ≡ i = omega arith in
    pick-false (p i) _ _ (ap p (sym here) ∙ h 0 (omega arith))
    ∙ first_from-none p (suc i) n (λ k below. let e : suc i + k ≡ i + suc k = omega arith in
    ap p e ∙ h (suc k) (omega arith))

-- one passes, and none before it
pub first_from-some : (p : ℕ → Bool) (i n k : ℕ) → k < n → p (i + k) ≡ true → ((j : ℕ) → j < k → p (i + j) ≡ false)
    → first_from p i n ≡ Some (i + k)
unfolding first_from
first_from-some p i zero k below here before = absurd (omega arith)
first_from-some p i (suc n) zero below here before =
    let e : i + 0 ≡ i = omega arith in
    pick-true (p i) _ _ (ap p (sym e) ∙ here) ∙ ap Some (sym e)
first_from-some p i (suc n) (suc k) below here before =
    let e : i + 0 ≡ i = omega arith in
    let f : suc i + k ≡ i + suc k = omega arith in
    pick-false (p i) _ _ (ap p (sym e) ∙ before 0 (omega arith))
    ∙ first_from-some p (suc i) n k (omega arith) (ap p f ∙ here)
    (λ j less. let g : suc i + j ≡ i + suc j = omega arith in ap p g ∙ before (suc j) (omega arith)) ∙ ap Some f

module _ (cells seen : ℕ → Cell) (addr d at n : ℕ) (need : Bool) (at-is : at ≡ above addr d)
    (page : at % 4096 + n ≤ 4096) (same : (a : ℕ) → a / 4096 ≡ at / 4096 → cells a ≡ seen (a % 4096)) where
  -- the byte at an offset, as it is seen in the page
  seen-at : (k : ℕ) → k < n → shadow_in (cells (above addr (d + k))) ≡ shadow_in (seen (at % 4096 + k))
  seen-at k below =
      let here : above addr (d + k) ≡ at + k = omega arith in
      let in-page : (at + k) / 4096 ≡ at / 4096 = omega arith in
      let place : (at + k) % 4096 ≡ at % 4096 + k = omega arith in
      ap shadow_in (ap cells here ∙ same (at + k) in-page ∙ ap seen place)

  pub fine-more : NonePass (λ k. is_bad need (shadow_in (seen k))) (at % 4096) (at % 4096 + n)
      → NonePass (λ k. is_bad need (shadow_in (cells (above addr k)))) 0 d
      → NonePass (λ k. is_bad need (shadow_in (cells (above addr k)))) 0 (d + n)
  fine-more fine before k start below = elim (cases_lt k d) [
    | inl early ↦ before k start early
    | inr late ↦
        let i : ℕ = k - d in
        let near : i < n = omega arith in
        let e : d + i ≡ k = omega arith in
        ap (λ j. is_bad need (shadow_in (cells (above addr j)))) (sym e) ∙ ap (is_bad need) (seen-at i near)
        ∙ fine (at % 4096 + i) (omega arith) (omega arith)
  ]

  pub found-bad : (len i : ℕ) → d + n ≤ len
      → IsFirst (λ k. is_bad need (shadow_in (seen k))) (at % 4096) (at % 4096 + n) i
      → NonePass (λ k. is_bad need (shadow_in (cells (above addr k)))) 0 d
      → Some (record { addr = at - at % 4096 + i; accessible = (seen i).accessible })
      ≡ first_bad (λ a. shadow_in (cells a)) addr len need
  unfolding first_bad
  found-bad len i within first before =
      let start : at % 4096 ≤ i = first.start in
      let inside : i < at % 4096 + n = first.within in
      let j : ℕ = i - at % 4096 in
      let near : j < n = omega arith in
      let far : d + j < len = omega arith in
      let place : at % 4096 + j ≡ i = omega arith in
      let here : above addr (d + j) ≡ at - at % 4096 + i = omega arith in
      let p : ℕ → Bool = λ k. is_bad need (shadow_in (cells (above addr k))) in
      let shadow : shadow_in (cells (above addr (d + j))) ≡ shadow_in (seen i) = seen-at j near
      ∙ ap (λ k. shadow_in (seen k)) place in
      let hits : p (d + j) ≡ true = ap (is_bad need) shadow ∙ first.passes in
      let least : (k : ℕ) → k < d + j → p k ≡ false = λ k below. elim (cases_lt k d) [
        | inl early ↦ before k (omega arith) early
        | inr late ↦
            let m : ℕ = k - d in
            let e : d + m ≡ k = omega arith in
            ap p (sym e) ∙ ap (is_bad need) (seen-at m (omega arith))
            ∙ first.least (at % 4096 + m) (omega arith) (omega arith)
      ] in
      let found : first_from p 0 len ≡ Some (d + j) =
      let start-at : (k : ℕ) → 0 + k ≡ k = λ k. omega arith in
      first_from-some p 0 len (d + j) far (ap p (start-at (d + j)) ∙ hits) (λ k below. ap p (start-at k)
      ∙ least k below) ∙ ap Some (start-at (d + j)) in
      sym (ap (bad_at (λ a. shadow_in (cells a)) addr) found
      ∙ ap₂ (λ a b. Some (record { addr = a; accessible = b })) here (ap (λ (s : Shadow). s.accessible) shadow))

pub found-none : (shadows : ℕ → Shadow) (addr len d : ℕ) (need : Bool) → len ≤ d
    → NonePass (λ k. is_bad need (shadows (above addr k))) 0 d → None ≡ first_bad shadows addr len need
unfolding first_bad
found-none shadows addr len d need done fine =
    sym (ap (bad_at shadows addr) (first_from-none (λ i. is_bad need (shadows (above addr i))) 0 len
    (λ k below. fine (0 + k) (omega arith) (omega arith))))

same-four : (a b c d e f g h : Bool) → a ≡ e → b ≡ f → c ≡ g → d ≡ h
    → (not a && not b && not c && not d) ≡ (not e && not f && not g && not h)
same-four a b c d e f g h p q r s = cc

-- another multiple of 4 is looked at
pub word-more : (shadows : ℕ → Shadow) (from word : ℕ) → HoldNoWord shadows from (4 * word)
    → holds_word shadows (4 * word) ≡ false → HoldNoWord shadows from (4 * (word + 1))
word-more shadows from word before here a start below aligned = elim (cases_lt a (4 * word)) [
  | inl early ↦ before a start early aligned
  | inr late ↦ let e : a ≡ 4 * word = omega arith in ap (holds_word shadows) e ∙ here
]

module _ (cells seen : ℕ → Cell) (start : ℕ) (page : start % 4096 ≡ 0) (same : (a : ℕ) → a / 4096 ≡ start / 4096
    → cells a ≡ seen (a % 4096)) where
  byte-seen : (k : ℕ) → k < 4096 → shadow_in (cells (start + k)) ≡ shadow_in (seen k)
  byte-seen k below =
      let there : (start + k) / 4096 ≡ start / 4096 = omega arith in
      let place : (start + k) % 4096 ≡ k = omega arith in
      ap shadow_in (same (start + k) there ∙ ap seen place)

  next-seen : (k i : ℕ) → k + i < 4096 → is_bad true (shadow_in (cells (start + k + i)))
      ≡ is_bad true (shadow_in (seen (k + i)))
  next-seen k i below =
      let e : start + k + i ≡ start + (k + i) = omega arith in
      ap (λ a. is_bad true (shadow_in (cells a))) e ∙ ap (is_bad true) (byte-seen (k + i) below)

  pub word-seen : (k : ℕ) → k % 4 ≡ 0 → k < 4096
      → holds_word (λ a. shadow_in (cells a)) (start + k) ≡ holds_word (λ a. shadow_in (seen a)) k
  word-seen k aligned below =
      let whole : k + 4 ≤ 4096 = omega arith in
      same-four _ _ _ _ _ _ _ _ (ap (is_bad true) (byte-seen k below)) (next-seen k 1 (omega arith))
      (next-seen k 2 (omega arith)) (next-seen k 3 (omega arith))

  pub none-in-page : (addr from : ℕ) → HoldNoWord (λ a. shadow_in (seen a)) from 4096
      → HoldNoWord (λ a. shadow_in (cells a)) addr (start + from)
      → HoldNoWord (λ a. shadow_in (cells a)) addr (start + 4096)
  none-in-page addr from none before a above below aligned = elim (cases_lt a (start + from)) [
    | inl early ↦ before a above early aligned
    | inr late ↦
        let k : ℕ = a - start in
        let e : start + k ≡ a = omega arith in
        let near : k < 4096 = omega arith in
        let four : k % 4 ≡ 0 = omega arith in
        ap (holds_word (λ b. shadow_in (cells b))) (sym e) ∙ word-seen k four near ∙ none k (omega arith) near four
  ]

  pub found-in-page : (addr from place : ℕ) → IsNextWord (λ a. shadow_in (seen a)) from place → place < 4096
      → addr ≤ start + from
      → HoldNoWord (λ a. shadow_in (cells a)) addr (start + from)
      → IsNextWord (λ a. shadow_in (cells a)) addr (start + place)
  found-in-page addr from place next inside above before =
      let later : from ≤ place = next.above in
      let four : place % 4 ≡ 0 = next.aligned in
      record {
        above = omega arith;
        aligned = omega arith;
        holds = word-seen place four inside ∙ next.holds;
        least = λ a start-at below aligned. elim (cases_lt a (start + from)) [
          | inl early ↦ before a start-at early aligned
          | inr late ↦
              let k : ℕ = a - start in
              let e : start + k ≡ a = omega arith in
              let near : k < place = omega arith in
              let multiple : k % 4 ≡ 0 = omega arith in
              ap (holds_word (λ b. shadow_in (cells b))) (sym e) ∙ word-seen k multiple (omega arith)
              ∙ next.least k (omega arith) near multiple
        ];
      }
