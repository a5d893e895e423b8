-- The fields of a line of three words with a space between each two.
use Rattle.std.proofs.Common.{◌≡◌, ℕ, ◌<◌, ◌==◌, List, [], ◌∷◌, ◌++◌, false, refl, ap, ◌∙◌, append_assoc, length, arith}
use Rattle.std.specs.Str.Parse.{AllDigits}
use Rattle.std.proofs.lemmas.Bool.Decides.{nat_tests}
use Rattle.std.proofs.lemmas.List.Splits.{slice_split_at, slice_split_none}
use Rattle.commands.specs.Commands.{fields, has_empty}
use Rattle.driver.proofs.Numerals.{no_space}

module _ (word a b : List ℕ) where
  -- the line, piece by piece
  pub spaced : (word ++ 32 ∷ []) ++ a ++ 32 ∷ [] ++ b ≡ word ++ 32 ∷ (a ++ 32 ∷ b)
  spaced = simp append_assoc

  pub three_fields : AllDigits 36 word → AllDigits 36 a → AllDigits 36 b
      → fields (word ++ 32 ∷ (a ++ 32 ∷ b)) ≡ word ∷ a ∷ b ∷ []
  three_fields w f g =
      let at_space = λ (c : ℕ). c == 32 in
      slice_split_at at_space word 32 (a ++ 32 ∷ b) (no_space word w) refl
      ∙ ap (λ (parts : List (List ℕ)). word ∷ parts) (slice_split_at at_space a 32 b (no_space a f) refl
      ∙ ap (λ (parts : List (List ℕ)). a ∷ parts) (slice_split_none at_space b (no_space b g)))

  pub none_empty : 0 < length word → 0 < length a → 0 < length b → has_empty (word ∷ a ∷ b ∷ []) ≡ false
  none_empty w f g = grind (arith, nat_tests)
