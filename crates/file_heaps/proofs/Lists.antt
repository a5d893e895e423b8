-- Lists that are mapped and filtered, step by step.
use Rattle.std.proofs.Common.{◌≡◌, ◌∙◌, ap, refl, ℕ, ◌+◌, ◌<◌, Bool, cond, ◌||◌, List, [], ◌∷◌, ◌++◌, get_or, length}
use Rattle.std.proofs.Common.{map, take}
use Rattle.std.specs.List.{filter, list_any}
use Rattle.std.proofs.lemmas.List.{map-append, take_more}
use Rattle.std.proofs.lemmas.List.Elements.{filter-append}

-- a test of what elements are mapped to
pub any_map : {A B : Type 0} (p : B → Bool) (f : A → B) (xs : List A) →
    list_any p (map f xs) ≡ list_any (λ x. p (f x)) xs
any_map p f [] = refl
any_map p f (x ∷ xs) = ap (λ b. p (f x) || b) (any_map p f xs)

-- those kept of the first elements, and the next one if it is kept
pub kept_next : {A B : Type 0} (p : B → Bool) (f : A → B) (xs : List A) (i : ℕ) (d : A) → i < length xs →
    filter p (map f (take (i + 1) xs))
    ≡ filter p (map f (take i xs)) ++ cond (p (f (get_or xs i d))) (f (get_or xs i d) ∷ []) []
kept_next p f xs i d below =
    ap (λ first. filter p (map f first)) (take_more xs i d below)
    ∙ ap (filter p) (map-append f (take i xs) (get_or xs i d ∷ []))
    ∙ filter-append p (map f (take i xs)) (f (get_or xs i d) ∷ [])

-- what a list with one more element is mapped to
pub mapped_push : {A B : Type 0} (f : A → B) (xs : List A) (x : A) → map f (xs ++ x ∷ []) ≡ map f xs ++ f x ∷ []
mapped_push f xs x = map-append f xs (x ∷ [])
