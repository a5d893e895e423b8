-- One step of a loop over the entries of a table: what is left at an index, and at the next.
use Rattle.std.proofs.Common.{◌≡◌, ℕ, suc, ◌+◌, ◌-◌, ◌<◌, ◌≤◌, Bool, cond, ◌||◌, List, [], ◌∷◌, ◌++◌, Some, map, sym}
use Rattle.std.proofs.Common.{◌∙◌, ap, append_assoc, arith}
use Rattle.std.proofs.Math.Nat.{sub-zero}
use Rattle.std.specs.List.{filter, find, list_any, range_with_len}

-- the entries from an index on
unfoldable pub items_after : {X : Type 0} → (ℕ → X) → ℕ → ℕ → List X
items_after f count index = map f (range_with_len index (count - index))

pub items_start : {X : Type 0} (f : ℕ → X) (count : ℕ) → items_after f count 0 ≡ map f (range_with_len 0 count)
unfolding items_after
items_start f count = ap (λ n. map f (range_with_len 0 n)) (sub-zero count)

pub items_end : {X : Type 0} (f : ℕ → X) (count index : ℕ) → count ≤ index → items_after f count index ≡ []
unfolding items_after
items_end f count index past =
    let none : count - index ≡ 0 = omega arith in
    ap (λ n. map f (range_with_len index n)) none

pub items_step : {X : Type 0} (f : ℕ → X) (count index : ℕ) → index < count →
    items_after f count index ≡ f index ∷ items_after f count (index + 1)
unfolding items_after
items_step f count index listed =
    let one_more : count - index ≡ suc (count - (index + 1)) = omega arith in
    ap (λ n. map f (range_with_len index n)) one_more

-- whether any of a list passes, by its first element
pub any_first : {X : Type 0} (p : X → Bool) (xs : List X) (x : X) (later : List X) (b : Bool) →
    xs ≡ x ∷ later → p x ≡ b → list_any p xs ≡ (b || list_any p later)
any_first p xs x later b first passes = ap (list_any p) first ∙ ap (λ t. t || list_any p later) passes

-- the first that passes, by the first element
pub find_first : {X : Type 0} (p : X → Bool) (xs : List X) (x : X) (later : List X) (b : Bool) →
    xs ≡ x ∷ later → p x ≡ b → find p xs ≡ cond b (Some x) (find p later)
find_first p xs x later b first passes = ap (find p) first ∙ ap (λ t. cond t (Some x) (find p later)) passes

-- those that pass, by the first element
pub filter_first : {X : Type 0} (p : X → Bool) (xs : List X) (x : X) (later : List X) (b : Bool) →
    xs ≡ x ∷ later → p x ≡ b → filter p xs ≡ cond b (x ∷ filter p later) (filter p later)
filter_first p xs x later b first passes =
    ap (filter p) first ∙ ap (λ t. cond t (x ∷ filter p later) (filter p later)) passes

-- one element goes from what is left to the end of what is done
pub pushed_more : {X : Type 0} (done now left later : List X) (x : X) →
    now ≡ done ++ x ∷ [] → left ≡ x ∷ later → now ++ later ≡ done ++ left
pushed_more done now left later x pushed first =
    ap (λ xs. xs ++ later) pushed ∙ append_assoc done (x ∷ []) later ∙ ap (λ xs. done ++ xs) (sym first)
