-- The tallies of a sweep, by the laws of texts that are counted.
use Rattle.std.proofs.Common.{◌≡◌, ℕ, ◌+◌, List, [], ◌∷◌, ◌++◌, cond, count_by, fold, map, refl, ap, ◌∙◌, append-nil}
use Rattle.std.specs.Prelude.{slice_get}
use Rattle.std.specs.Str.{bytes_eq}
use Rattle.std.proofs.lemmas.List.{map-append}
use Rattle.texts.specs.Distinct.{distinct}
use Rattle.texts.specs.Laws.{CountsTexts, NumbersTexts, counted}
use Rattle.texts.specs.Tallied.{number_of, with_text}
use Rattle.sweeps.specs.Laws.{NumbersArePlaces, RowsHaveNumbers, TalliesCount, outcomes_of}
use Rattle.sweeps.specs.Outcomes.{Met, standing, tallied}
use Rattle.sweeps.specs.Tables.{met_text, rows_after, rows_text}
use Rattle.sweeps.proofs.Steps.{rows-more}

-- the outcomes that were met
abbrev texts_of : List Met → List (List ℕ)
texts_of met = map (λ (m : Met). m.outcome) met

tallied-is : (first : List ℕ) (met : List Met) → tallied first met ≡ counted first (texts_of met)
unfolding tallied
tallied-is first met = go ((first, 0) ∷ []) met
  where
    go : (es : List (List ℕ × ℕ)) (met : List Met)
        → fold (λ entries (m : Met). with_text entries m.outcome) es met ≡ fold with_text es (texts_of met)
    go es [] = refl
    go es (m ∷ ms) = go (with_text es m.outcome) ms

-- as many outcomes are a text as edits lead to it
same-count : (met : List Met) (text : List ℕ)
    → count_by (λ other. bytes_eq other text) (texts_of met) ≡ count_by (λ (m : Met). bytes_eq m.outcome text) met
same-count met text = go 0 met
  where
    go : (n : ℕ) (met : List Met) → fold (λ a other. a + cond (bytes_eq other text) 1 0) n (texts_of met)
        ≡ fold (λ a (m : Met). a + cond (bytes_eq m.outcome text) 1 0) n met
    go n [] = refl
    go n (m ∷ ms) = go (n + cond (bytes_eq m.outcome text) 1 0) ms

-- each text with a number
abbrev entries : (List ℕ → ℕ) → List (List ℕ) → List (List ℕ × ℕ)
entries number texts = map (λ text. (text, number text)) texts

same-entries : (met : List Met) (texts : List (List ℕ))
    → entries (λ text. standing (count_by (λ other. bytes_eq other text) (texts_of met))) texts
    ≡ entries (λ text. standing (count_by (λ (m : Met). bytes_eq m.outcome text) met)) texts
same-entries met [] = refl
same-entries met (text ∷ texts) =
    let same = same-count met text in let rest = same-entries met texts in λ i. (text, standing (same i)) ∷ rest i

pub tallies-count : CountsTexts → TalliesCount
tallies-count law first met =
    tallied-is first met ∙ law first (texts_of met) ∙ same-entries met (outcomes_of first met)

pub numbers-are-places : NumbersTexts → NumbersArePlaces
numbers-are-places law first before m after =
    ap (λ texts. slice_get (distinct bytes_eq (first ∷ texts)) (number_of (tallied first before) m.outcome))
    (map-append (λ (n : Met). n.outcome) before (m ∷ after))
    ∙ ap (λ es. slice_get (distinct bytes_eq (first ∷ (texts_of before ++ m.outcome ∷ texts_of after)))
    (number_of es m.outcome)) (tallied-is first before)
    ∙ law first (texts_of before) m.outcome (texts_of after)

pub rows-have-numbers : RowsHaveNumbers
unfolding rows_after
rows-have-numbers first before m =
    rows-more first before (m ∷ [])
    ∙ ap (λ text. rows_text first before ++ text) (append-nil (met_text (tallied first before) m.change m.outcome))
