-- One more pair of compares.
use Rattle.std.proofs.Common.{◌≡◌, ◌==◌, ℕ, ◌+◌, ◌<◌, ◌≤◌, ◌++◌, ◌∙◌, Bool, true, false, List, [], ◌∷◌, ap, ap₂}
use Rattle.std.proofs.Common.{cond, drop, get_or, length, refl}
use Rattle.std.proofs.lemmas.Bool.Decides.{Decides-eqb}
use Rattle.std.proofs.lemmas.List.{drop_all, drop_more}
use Rattle.checkpoints.specs.declared.compares.Compare.{Compare}
use Rattle.tries.specs.Tries.{differ_lines, pair_lines}

-- a list that has come to its end
pub own-ends : (owns others : List Compare) (i : ℕ) → length owns ≤ i → differ_lines (drop i owns) others ≡ []
unfolding differ_lines
own-ends owns others i l = ap (λ xs. differ_lines xs others) (drop_all i owns l)

none-left : (owns : List Compare) → differ_lines owns [] ≡ []
unfolding differ_lines
none-left [] = refl
none-left (own ∷ owns) = refl

pub other-ends : (owns others : List Compare) (i : ℕ) → length others ≤ i → differ_lines owns (drop i others) ≡ []
other-ends owns others i l = ap (differ_lines owns) (drop_all i others l) ∙ none-left owns

-- by whether the addresses are the same
abbrev by-pc : Bool → Compare → Compare → List ℕ → List ℕ
by-pc same own other rest = cond same (pair_lines own other ++ rest) []

first-pair : (own other : Compare) (owns others : List Compare)
    → differ_lines (own ∷ owns) (other ∷ others) ≡ by-pc (own.pc == other.pc) own other (differ_lines owns others)
unfolding differ_lines
first-pair own other owns others = refl

next-pair : (owns others : List Compare) (i : ℕ) (d : Compare) → i < length owns → i < length others
    → differ_lines (drop i owns) (drop i others)
    ≡ by-pc ((get_or owns i d).pc == (get_or others i d).pc) (get_or owns i d) (get_or others i d)
    (differ_lines (drop (i + 1) owns) (drop (i + 1) others))
next-pair owns others i d l m =
    ap₂ differ_lines (drop_more owns i d l) (drop_more others i d m) ∙ first-pair _ _ _ _

not-so : (b : Bool) → (b ≡ true → ⊥) → b ≡ false
not-so true h = absurd (h refl)
not-so false h = refl

pub pair-more : (owns others : List Compare) (i : ℕ) (d : Compare) → i < length owns → i < length others
    → (get_or owns i d).pc ≡ (get_or others i d).pc
    → differ_lines (drop i owns) (drop i others)
    ≡ pair_lines (get_or owns i d) (get_or others i d) ++ differ_lines (drop (i + 1) owns) (drop (i + 1) others)
pair-more owns others i d l m same =
    next-pair owns others i d l m
    ∙ ap (λ b. by-pc b (get_or owns i d) (get_or others i d) (differ_lines (drop (i + 1) owns) (drop (i + 1) others)))
    ((Decides-eqb (get_or owns i d).pc (get_or others i d).pc).1 same)

pub pair-stops : (owns others : List Compare) (i : ℕ) (d : Compare) → i < length owns → i < length others
    → ((get_or owns i d).pc ≡ (get_or others i d).pc → ⊥) → differ_lines (drop i owns) (drop i others) ≡ []
pair-stops owns others i d l m other =
    next-pair owns others i d l m
    ∙ ap (λ b. by-pc b (get_or owns i d) (get_or others i d) (differ_lines (drop (i + 1) owns) (drop (i + 1) others)))
    (not-so _ (λ same. other ((Decides-eqb (get_or owns i d).pc (get_or others i d).pc).0 same)))
