-- Steps of the loops over groups.
use Rattle.std.proofs.Common.{◌≡◌, ℕ, zero, suc, ◌+◌, ◌<◌, ◌≤◌, List, [], ◌∷◌, ◌++◌, Bool, Option, Some, length, drop}
use Rattle.std.proofs.Common.{slice_get, get_or, refl, ap, ap₂, append_assoc, length-append, sym, ◌∙◌, arith}
use Rattle.std.specs.List.{filter_map, cons_option, range_with_len}
use Rattle.std.proofs.lemmas.List.{drop_all}
use Rattle.std.proofs.lemmas.Option.{slice_get-get_or}
use Rattle.error_events.specs.Merging.{merged, merged_with}
use Rattle.error_events.specs.declared.event.Group.{Group}

merged-drop : (callers : ℕ) (i : ℕ) (done : List Group) (keeps : List Bool) (gs : List Group) (keep : Bool)
    → length keeps ≡ length gs → slice_get keeps i ≡ Some keep
    → merged callers (merged_with callers done keep (slice_get gs i)) (drop (suc i) keeps) (drop (suc i) gs)
    ≡ merged callers done (drop i keeps) (drop i gs)
unfolding merged
merged-drop callers i done [] gs keep l h = cc
merged-drop callers i done (k ∷ ks) [] keep l h = absurd (omega arith)
merged-drop callers zero done (k ∷ ks) (g ∷ gs) keep l h =
    let e : keep ≡ k = cc in ap (λ b. merged callers (merged_with callers done b (Some g)) ks gs) e
merged-drop callers (suc i) done (k ∷ ks) (g ∷ gs) keep l h =
    let rest_long : length ks ≡ length gs = omega arith in merged-drop callers i done ks gs keep rest_long h

-- another group
pub merged-step : (callers : ℕ) (i : ℕ) (done new all : List Group) (keeps : List Bool) (gs : List Group)
    (group : Option Group) (d : Bool) → length keeps ≡ length gs → i < length keeps
    → merged callers done (drop i keeps) (drop i gs) ≡ all → group ≡ slice_get gs i
    → new ≡ merged_with callers done (get_or keeps i d) group
    → merged callers new (drop (i + 1) keeps) (drop (i + 1) gs) ≡ all
merged-step callers i done new all keeps gs group d l h before at more =
    let e : i + 1 ≡ suc i = omega arith in
    ap (λ n. merged callers new (drop n keeps) (drop n gs)) e
    ∙ ap (λ x. merged callers x (drop (suc i) keeps) (drop (suc i) gs)) (more
    ∙ ap (merged_with callers done (get_or keeps i d)) at)
    ∙ merged-drop callers i done keeps gs (get_or keeps i d) l (slice_get-get_or keeps i d h) ∙ before

-- none is left
pub merged-end : (callers : ℕ) (i : ℕ) (done all : List Group) (keeps : List Bool) (gs : List Group) → length keeps ≤ i
    → merged callers done (drop i keeps) (drop i gs) ≡ all → done ≡ all
unfolding merged
merged-end callers i done all keeps gs h before =
    ap (λ ks. merged callers done ks (drop i gs)) (sym (drop_all i keeps h)) ∙ before

here : (xs : List Group) (y : Group) (ys : List Group) → slice_get (xs ++ y ∷ ys) (length xs) ≡ Some y
here [] y ys = refl
here (x ∷ xs) y ys = here xs y ys

length-more : (xs : List Group) (y : Group) → length (xs ++ y ∷ []) ≡ length xs + 1
length-more xs y = length-append xs (y ∷ [])

-- the elements at all places, after those before them
read-all : (xs ys : List Group) → filter_map (slice_get (xs ++ ys)) (range_with_len (length xs) (length ys)) ≡ ys
read-all xs [] = refl
read-all xs (y ∷ ys) =
    ap₂ cons_option (here xs y ys)
    (ap₂ (λ zs n. filter_map (slice_get zs) (range_with_len n (length ys))) (sym (append_assoc xs (y ∷ []) ys))
    (sym (length-more xs y)) ∙ read-all (xs ++ y ∷ []) ys)

pub read-whole : (xs : List Group) → filter_map (slice_get xs) (range_with_len 0 (length xs)) ≡ xs
read-whole xs = read-all [] xs
