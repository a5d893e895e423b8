-- Words in which two memories differ, from page to page.
use Rattle.std.proofs.Common.{◌≡◌, ℕ, Bool, true, false, ◌||◌, ◌==◌, List, [], ◌∷◌, ◌++◌, refl, ap, sym, ◌∙◌, ◌+◌}
use Rattle.std.proofs.Common.{◌/◌, ◌%◌, ◌<◌, ◌≤◌, cond, inl, inr, arith, eq-eqb, zero, suc}
use Rattle.std.proofs.lemmas.Bool.{cases_lt}
use Rattle.std.proofs.lemmas.List.Elements.{All-push}
use Rattle.std.proofs.lemmas.List.Folds.{list_any-append}
use Rattle.shadow_memory.specs.Cells.{shadow_in}
use Rattle.shadow_memory.specs.Comparisons.{DifferBelow}
use Rattle.shadow_memory.specs.Differences.{IsWordApart, in_words}
use Rattle.shadow_memory.specs.Loads.{four}
use Rattle.shadow_memory.specs.Ranges.{byte_of, little_word}
use Rattle.shadow_memory.specs.declared.cells.Cell.{Cell}
use Rattle.shadow_memory.specs.declared.differences.WordApart.{WordApart}
use Rattle.shadow_memory.proofs.Ranging.{byte-of-number}

neither : (b c : Bool) → (b || (c || false)) ≡ false → (b ≡ false) × (c ≡ false)
neither false false e = (refl, refl)
neither false true e = (refl, e)
neither true c e = (e, grind (arith))

-- an address in none of some words and another one
not-pushed : (words : List WordApart) (w : WordApart) (a : ℕ) → in_words (words ++ (w ∷ [])) a ≡ false
    → (in_words words a ≡ false) × ((w.addr / 4 == a / 4) ≡ false)
not-pushed words w a e =
    neither (in_words words a) (w.addr / 4 == a / 4)
    (sym (list_any-append (λ (v : WordApart). v.addr / 4 == a / 4) words (w ∷ [])) ∙ e)

module _ (cells others : ℕ → Cell) where
  -- cells that are the same
  pub more-below : (words : List WordApart) (from to : ℕ)
      → ((a : ℕ) → from ≤ a → a < to → (cells a).byte ≡ (others a).byte)
      → ((a : ℕ) → from ≤ a → a < to → shadow_in (cells a) ≡ shadow_in (others a))
      → DifferBelow words cells others from → DifferBelow words cells others to
  more-below words from to bytes shadows known = record {
    inside = known.inside;
    outside = λ a below away. elim (cases_lt a from) [
      | inl early ↦ known.outside a early away
      | inr late ↦ bytes a late below
    ];
    shadows = λ a below. elim (cases_lt a from) [
      | inl early ↦ known.shadows a early
      | inr late ↦ shadows a late below
    ];
  }

  -- a word whose bytes may differ
  pub word-below : (words : List WordApart) (w : WordApart)
      → IsWordApart (λ a. (cells a).byte) (λ a. (others a).byte) w
      → ((a : ℕ) → w.addr ≤ a → a < w.addr + 4 → shadow_in (cells a) ≡ shadow_in (others a))
      → DifferBelow words cells others w.addr → DifferBelow (words ++ (w ∷ [])) cells others (w.addr + 4)
  word-below words w is shadows known = record {
    inside = All-push (IsWordApart (λ a. (cells a).byte) (λ a. (others a).byte)) words w known.inside is;
    outside = λ a below away.
        let parts = not-pushed words w a away in
        elim (cases_lt a w.addr) [
          | inl early ↦ known.outside a early parts.0
          | inr late ↦
              let aligned : w.addr % 4 ≡ 0 = is.aligned in
              let here : w.addr / 4 ≡ a / 4 = omega arith in
              absurd (not-both (w.addr / 4 == a / 4) (eq-eqb (w.addr / 4) (a / 4) here) parts.1)
        ];
    shadows = λ a below. elim (cases_lt a w.addr) [
      | inl early ↦ known.shadows a early
      | inr late ↦ shadows a late below
    ];
  }
    where
      not-both : (b : Bool) → b ≡ true → b ≡ false → ⊥
      not-both b yes-it not-it = grind (arith)

module _ (cells others seen seen-there : ℕ → Cell) (start : ℕ) (page : start % 4096 ≡ 0)
    (is : (a : ℕ) → a / 4096 ≡ start / 4096 → cells a ≡ seen (a % 4096))
    (is-there : (a : ℕ) → a / 4096 ≡ start / 4096 → others a ≡ seen-there (a % 4096))
    (marks : (k : ℕ) → k < 4096 → shadow_in (seen k) ≡ shadow_in (seen-there k)) where
  shadows-here : (a : ℕ) → start ≤ a → a < start + 4096 → shadow_in (cells a) ≡ shadow_in (others a)
  shadows-here a low high =
      let here : a / 4096 ≡ start / 4096 = omega arith in
      ap shadow_in (is a here) ∙ marks (a % 4096) (omega arith) ∙ sym (ap shadow_in (is-there a here))

  bytes-here : (from to : ℕ) → to ≤ 4096 → ((k : ℕ) → from ≤ k → k < to → (seen k).byte ≡ (seen-there k).byte)
      → (a : ℕ) → start + from ≤ a → a < start + to → (cells a).byte ≡ (others a).byte
  bytes-here from to within same a low high =
      let here : a / 4096 ≡ start / 4096 = omega arith in
      ap (λ (c : Cell). c.byte) (is a here) ∙ same (a % 4096) (omega arith) (omega arith)
      ∙ sym (ap (λ (c : Cell). c.byte) (is-there a here))

  -- a word that differs, and bytes after it that are the same
  pub page-continues : (words : List WordApart) (w : WordApart) (at to : ℕ) → at + 4 ≤ to → to ≤ 4096
      → w.addr ≡ start + at → IsWordApart (λ a. (cells a).byte) (λ a. (others a).byte) w
      → ((k : ℕ) → at + 4 ≤ k → k < to → (seen k).byte ≡ (seen-there k).byte)
      → DifferBelow words cells others (start + at)
      → DifferBelow (words ++ (w ∷ [])) cells others (start + to)
  page-continues words w at to after within there word same known =
      more-below cells others (words ++ (w ∷ [])) (w.addr + 4) (start + to)
      (λ a low high. bytes-here (at + 4) to within same a (omega arith) high)
      (λ a low high. shadows-here a (omega arith) (omega arith))
      (word-below cells others words w word (λ a low high. shadows-here a (omega arith) (omega arith))
      (rw there known))

choose-small : (b : Bool) (x y : ℕ) → x < 256 → y < 256 → cond b x y < 256
choose-small true x y small other = small
choose-small false x y small other = other

-- four bytes, read as a word
pub word-read : (cells : ℕ → Cell) (addr word first second third fourth : ℕ) → first < 256 → second < 256
    → third < 256 → fourth < 256 → word ≡ little_word (four first second third fourth)
    → first ≡ (cells addr).byte → second ≡ (cells (addr + 1)).byte → third ≡ (cells (addr + 2)).byte
    → fourth ≡ (cells (addr + 3)).byte → (i : ℕ) → i < 4 → (cells (addr + i)).byte ≡ byte_of word i
word-read cells addr word first second third fourth a b c d is at-first at-second at-third at-fourth i below =
    sym (each i below)
    ∙ sym (byte-of-number (four first second third fourth)
    (λ k. choose-small (k == 0) _ _ a (choose-small (k == 1) _ _ b (choose-small (k == 2) _ _ c d))) i below)
    ∙ ap (λ (w : ℕ). byte_of w i) (sym is)
  where
    each : (i : ℕ) → i < 4 → four first second third fourth i ≡ (cells (addr + i)).byte
    each zero below =
        let here : addr ≡ addr + 0 = omega arith in at-first ∙ ap (λ (k : ℕ). (cells k).byte) here
    each (suc zero) below = at-second
    each (suc (suc zero)) below = at-third
    each (suc (suc (suc zero))) below = at-fourth
    each (suc (suc (suc (suc i)))) below = absurd (omega arith)
