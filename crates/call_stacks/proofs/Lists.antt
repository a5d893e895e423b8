-- Lists that have the same at each place.
use Rattle.std.proofs.Common.{◌≡◌, ℕ, suc, ◌<◌, List, [], ◌∷◌, length, refl, ap₂, arith}
use Rattle.std.specs.List.{slice_get}
use Rattle.std.proofs.lemmas.Option.{same_Some}

pub same_lists : {X : Type 0} (xs ys : List X) → length xs ≡ length ys
    → ((k : ℕ) → k < length xs → slice_get xs k ≡ slice_get ys k) → xs ≡ ys
same_lists [] [] long same = refl
same_lists [] (y ∷ ys) long same = absurd (omega arith)
same_lists (x ∷ xs) [] long same = absurd (omega arith)
same_lists (x ∷ xs) (y ∷ ys) long same =
    ap₂ (λ z zs. z ∷ zs) (same_Some x y (same 0 (omega arith)))
    (same_lists xs ys (omega arith) (λ k inside. same (suc k) (omega arith)))
