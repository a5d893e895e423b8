-- A place in one of two lists, one after another.
use Rattle.std.proofs.Common.{◌≡◌, ℕ, zero, suc, ◌+◌, ◌-◌, ◌<◌, ◌≤◌, length, List, [], ◌∷◌, ◌++◌, slice_get, refl, ap}
use Rattle.std.proofs.Common.{sym, ◌∙◌, arith}

pub get-before : {X : Type 0} (xs ys : List X) (i : ℕ) → i < length xs → slice_get (xs ++ ys) i ≡ slice_get xs i
get-before [] ys i h = absurd (omega arith)
get-before (x ∷ xs) ys zero h = refl
get-before (x ∷ xs) ys (suc i) h = let less : i < length xs = omega arith in get-before xs ys i less

pub get-behind : {X : Type 0} (xs ys : List X) (i j : ℕ) → j ≡ length xs + i → slice_get (xs ++ ys) j ≡ slice_get ys i
get-behind [] ys i j e = let same : j ≡ i = omega arith in ap (slice_get ys) same
get-behind (x ∷ xs) ys i zero e = absurd (omega arith)
get-behind (x ∷ xs) ys i (suc j) e = let less : j ≡ length xs + i = omega arith in get-behind xs ys i j less

-- the same of the whole, with the length of the first
module _ {X : Type 0} (xs ys all : List X) (whole : xs ++ ys ≡ all) (n i : ℕ) (long : n ≡ length xs) where
  pub got-first : i < n → slice_get xs i ≡ slice_get all i
  got-first h =
      let within : i < length xs = omega arith in
      sym (get-before xs ys i within) ∙ ap (λ l. slice_get l i) whole

  pub got-second : n ≤ i → slice_get ys (i - n) ≡ slice_get all i
  got-second h =
      let place : i ≡ length xs + (i - n) = omega arith in
      sym (get-behind xs ys (i - n) i place) ∙ ap (λ l. slice_get l i) whole
