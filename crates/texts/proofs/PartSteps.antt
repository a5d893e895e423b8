-- The parts of a text, one at a time.
use Rattle.std.proofs.Common.{◌≡◌, ℕ, zero, suc, ◌+◌, ◌-◌, ◌<◌, ◌≤◌, ◌==◌, List, [], ◌∷◌, Bool, true, false, cond, not}
use Rattle.std.proofs.Common.{⊎_elim, Some, None, refl, ap, sym, take, take_all}
use Rattle.std.proofs.Common.{drop, length, arith, add-one, length-drop}
use Rattle.std.specs.Prelude.{position}
use Rattle.std.specs.List.{position_or_len, slice_split, onto_first}
use Rattle.std.proofs.lemmas.Bool.{cases_lt}
use Rattle.std.proofs.lemmas.Bool.Decides.{nat_tests}
use Rattle.texts.specs.Parts.{parts}

-- the first part ends at the first separator
split_at : (p : ℕ → Bool) (xs : List ℕ) (k : ℕ) → k ≡ position_or_len p xs → k < length xs
    → slice_split p xs ≡ take k xs ∷ slice_split p (drop (suc k) xs)
split_at p [] k e h = absurd (omega arith)
split_at p (b ∷ bs) zero e h = go (p b) e
  where
    go : (t : Bool) → zero ≡ cond (not t) (1 + position_or_len p bs) 0
        → cond t ([] ∷ slice_split p bs) (onto_first b (slice_split p bs)) ≡ [] ∷ slice_split p bs
    go true f = refl
    go false f = absurd (omega arith)
split_at p (b ∷ bs) (suc k) e h = go (p b) e (split_at p bs k)
  where
    go : (t : Bool) → suc k ≡ cond (not t) (1 + position_or_len p bs) 0
        → (k ≡ position_or_len p bs → k < length bs → slice_split p bs ≡ take k bs ∷ slice_split p (drop (suc k) bs))
        → cond t ([] ∷ slice_split p bs) (onto_first b (slice_split p bs)) ≡ (b ∷ take k bs)
        ∷ slice_split p (drop (suc k) bs)
    go true f ih = absurd (omega arith)
    go false f ih = ap (onto_first b) (ih (omega arith) (omega arith))

-- a text with no separator is one part
undivided : (p : ℕ → Bool) (xs : List ℕ) → length xs ≤ position_or_len p xs → slice_split p xs ≡ xs ∷ []
undivided p [] h = refl
undivided p (b ∷ bs) h = go (p b) h (undivided p bs)
  where
    go : (t : Bool) → suc (length bs) ≤ cond (not t) (1 + position_or_len p bs) 0
        → (length bs ≤ position_or_len p bs → slice_split p bs ≡ bs ∷ [])
        → cond t ([] ∷ slice_split p bs) (onto_first b (slice_split p bs)) ≡ (b ∷ bs) ∷ []
    go true f ih = absurd (omega arith)
    go false f ih = ap (onto_first b) (ih (omega arith))

-- a separator is within the text
within : (p : ℕ → Bool) (xs : List ℕ) (k : ℕ) → position p xs ≡ Some k → (k ≡ position_or_len p xs) × (k < length xs)
within p xs k e =
    ⊎_elim
    (λ lt. (grind (arith, nat_tests), grind (arith, nat_tests)))
    (λ le. absurd (grind (arith, nat_tests)))
    (cases_lt (position_or_len p xs) (length xs))

pub one_part : (separator : ℕ) (xs : List ℕ) → None ≡ position (λ b. b == separator) xs → parts separator xs ≡ xs ∷ []
one_part separator xs e = undivided (λ b. b == separator) xs (grind (arith, nat_tests))

pub first_part : (separator : ℕ) (xs : List ℕ) (k : ℕ) → Some k ≡ position (λ b. b == separator) xs
    → parts separator xs ≡ take k xs ∷ parts separator (take (length xs - (k + 1)) (drop (k + 1) xs))
first_part separator xs k e =
    let place = within (λ b. b == separator) xs k (sym e) in
    let rest = take_all (length xs - (k + 1)) (drop (k + 1) xs) (omega (arith, length-drop (k + 1) xs)) in
    rw (rest, add-one) (split_at (λ b. b == separator) xs k place.0 place.1)
