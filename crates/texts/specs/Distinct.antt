-- The distinct items of a list.
use Rattle.std.specs.Prelude.{Bool, not, List, [], ◌∷◌, filter}

-- each item once, in order of first occurrence, by a test whether two are the same
unfoldable pub distinct : {K : Type 0} → (K → K → Bool) → List K → List K
distinct same [] = []
distinct same (k ∷ ks) = k ∷ filter (λ other. not (same other k)) (distinct same ks)
