-- Searches in parts in a row, past the end of which there is none.
use Rattle.std.proofs.Common.{◌≡◌, ℕ, ◌+◌, ◌<◌, ◌≤◌, inl, inr, None, ap, ◌∙◌, subst}
use Rattle.std.proofs.lemmas.Bool.{cases_lt}
use Rattle.guest_heap.specs.Entries.{Entries, FirstAt, LastAt}
use Rattle.guest_heap.specs.Rows.{Grid, begin_in, end_in, AreNoneUpTo, AreNoneDownTo, FirstIn, LastIn}

module _ (grid : Grid) (places part at : ℕ) where
  pub up_ends : (i end : ℕ) → AreNoneUpTo grid places part at i
      → ((k : ℕ) → i ≤ k → k < end → grid k ≡ (λ _. None)) → AreNoneUpTo grid places part at end
  up_ends i end before past k above below =
      elim (cases_lt k i) [
        | inl l ↦ before k above l
        | inr g ↦ (λ n low high. ap (λ x. x n) (past k g below))
      ]

  pub down_begins : (begin : ℕ) → ((k : ℕ) → begin ≤ k → k ≤ part → grid k ≡ (λ _. None))
      → AreNoneDownTo grid places part at begin
  down_begins begin past k above below n low high = ap (λ x. x n) (past k above below)

  module _ (entries : Entries) (i begin n : ℕ) (here : entries ≡ grid i) where
    pub found_up : (end : ℕ) → part ≤ i → i < end → AreNoneUpTo grid places part at i → begin ≡ begin_in part at i
        → FirstAt entries begin places n → FirstIn grid places part at end i n
    found_up end above below none from found =
        let P : Entries → Type 0 = λ f. FirstAt f begin places n in
        let Q : ℕ → Type 0 = λ b. FirstAt (grid i) b places n in
        record { above = above; below = below; first = subst Q from (subst P here found); none = none }

    pub found_down : (next v : ℕ) → i ≤ part → next ≡ i + 1 → AreNoneDownTo grid places part at next → v ≡ places
        → begin ≡ end_in v part at i → LastAt entries begin n → LastIn grid places part at i n
    found_down next v below more none each from found =
        let N : ℕ → Type 0 = AreNoneDownTo grid places part at in
        let P : Entries → Type 0 = λ f. LastAt f begin n in
        let Q : ℕ → Type 0 = λ b. LastAt (grid i) b n in
        record {
          below = below;
          last = subst Q (from ∙ ap (λ x. end_in x part at i) each) (subst P here found);
          none = subst N more none;
        }
