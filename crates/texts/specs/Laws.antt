-- What the counts of texts are.
use Rattle.std.specs.Prelude.{◌≡◌, ℕ, List, [], ◌∷◌, ◌++◌, Some, count_by, fold, map, min, slice_get}
use Rattle.std.specs.Str.{bytes_eq}
use Rattle.texts.specs.Distinct.{distinct}
use Rattle.texts.specs.Tallied.{number_of, with_text}

-- some texts, counted one after another, after a first one that isn't counted itself
abbrev pub counted : List ℕ → List (List ℕ) → List (List ℕ × ℕ)
counted first texts = fold with_text ((first, 0) ∷ []) texts

-- how often a text is among others, at most the greatest 64-bit number
abbrev pub times : List (List ℕ) → List ℕ → ℕ
times texts text = min (count_by (λ other. bytes_eq other text) texts) 18446744073709551615

-- the entries are the distinct texts, each with how often it came after the first one
abbrev pub CountsTexts : Type 0
CountsTexts = (first : List ℕ) (texts : List (List ℕ))
    → counted first texts ≡ map (λ text. (text, times texts text)) (distinct bytes_eq (first ∷ texts))

-- the number of a text, when it is met, is its place among the distinct texts, whatever is met later
abbrev pub NumbersTexts : Type 0
NumbersTexts = (first : List ℕ) (before : List (List ℕ)) (text : List ℕ) (after : List (List ℕ))
    → slice_get (distinct bytes_eq (first ∷ (before ++ text ∷ after))) (number_of (counted first before) text)
    ≡ Some text
