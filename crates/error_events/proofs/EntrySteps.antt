-- Entries of a map: with a key that is new, and as a clone.
use Rattle.std.proofs.Common.{◌≡◌, ℕ, ◌+◌, suc, length, nat_lt, not, arith, List, [], ◌∷◌, ◌++◌, Bool, true, false}
use Rattle.std.proofs.Common.{cond, if◌then◌else◌, Option, Some, None, Result, Ok}
use Rattle.std.proofs.Common.{map, position, refl, ap, ap₂, subst, sym, ◌∙◌, ◌⊎◌, inl, inr}
use Rattle.std.specs.Prelude.{IsOk}
use Rattle.std.specs.Option.{option_map}
use Rattle.std.specs.List.{AllZip, position_or_len}
use Rattle.std.proofs.lemmas.Bool.Decides.{nat_tests}
use Rattle.std.specs.HashMap.{HashMap, IsClone}
use Rattle.indexmap.specs.IndexMap.{insert_entry}

-- a place was found
found-not-none : {X : Type 0} (o : Option ℕ) (f : ℕ → X) → option_map f o ≡ None → o ≡ None
found-not-none None f h = refl
found-not-none (Some i) f h = cc

less-suc : (m n : ℕ) → nat_lt (1 + m) (suc n) ≡ nat_lt m n
less-suc m n = grind (arith, nat_tests)

less-zero : (n : ℕ) → nat_lt 0 (suc n) ≡ true
less-zero n = grind (arith, nat_tests)

-- the first place at which a test passes, in a list with another item in front
pub position-first : {X : Type 0} (p : X → Bool) (x : X) (xs : List X) → p x ≡ true → position p (x ∷ xs) ≡ Some 0
position-first p x xs h =
    ap (λ b. cond (nat_lt (cond (not b) (1 + position_or_len p xs) 0) (suc (length xs)))
    (Some (cond (not b) (1 + position_or_len p xs) 0)) None) h
    ∙ ap (λ b. cond b (Some 0) None) (less-zero (length xs))

pub position-later : {X : Type 0} (p : X → Bool) (x : X) (xs : List X) → p x ≡ false
    → position p (x ∷ xs) ≡ option_map suc (position p xs)
position-later p x xs h =
    ap (λ b. cond (nat_lt (cond (not b) (1 + position_or_len p xs) 0) (suc (length xs)))
    (Some (cond (not b) (1 + position_or_len p xs) 0)) None) h
    ∙ ap (λ b. cond b (Some (1 + position_or_len p xs)) None) (less-suc (position_or_len p xs) (length xs))
    ∙ moved (nat_lt (position_or_len p xs) (length xs)) (position_or_len p xs)
  where
    moved : (b : Bool) (n : ℕ) → cond b (Some (1 + n)) None ≡ option_map suc (cond b (Some n) None)
    moved true n = let e : 1 + n ≡ suc n = omega arith in ap Some e
    moved false n = refl

-- the test doesn't pass at the first item, where it passes at none
pub none-first : {X : Type 0} (p : X → Bool) (x : X) (xs : List X) → position p (x ∷ xs) ≡ None → p x ≡ false
none-first p x xs h = go (p x) refl
  where
    go : (b : Bool) → p x ≡ b → b ≡ false
    go true t = let e = position-first p x xs t in cc
    go false t = refl

pub none-later : {X : Type 0} (p : X → Bool) (x : X) (xs : List X) → position p (x ∷ xs) ≡ None → position p xs ≡ None
none-later p x xs h = found-not-none (position p xs) suc (sym (position-later p x xs (none-first p x xs h)) ∙ h)

pub insert-absent : {K V : Type 0} (eq : K → K → Bool) (k : K) (v : V) (es : List (K × V))
    → position (eq k) (map (λ e. e.0) es) ≡ None → insert_entry eq es k v ≡ es ++ (k, v) ∷ []
insert-absent eq k v [] h = refl
insert-absent eq k v (e ∷ es) h =
    ap (λ b. if b then (e.0, v) ∷ es else e ∷ insert_entry eq es k v) (none-first (eq k) e.0 (map (λ x. x.0) es) h)
    ∙ ap (λ xs. e ∷ xs) (insert-absent eq k v es (none-later (eq k) e.0 (map (λ x. x.0) es) h))

-- a clone is the same value
abbrev pub IsSameClone : {X : Type 0} → (X → X → Type 0) → Type 0
IsSameClone {X} is_clone = (x y : X) → is_clone x y → y ≡ x

pub clone-entries : {K V : Type 0} (C : K → K → Type 0) (D : V → V → Type 0) → IsSameClone C → IsSameClone D
    → (es fs : List (K × V)) → AllZip (λ p q. C p.0 q.0 × D p.1 q.1) es fs → fs ≡ es
clone-entries C D c d [] [] h = refl
clone-entries C D c d [] (f ∷ fs) h = absurd h
clone-entries C D c d (e ∷ es) [] h = absurd h
clone-entries C D c d (e ∷ es) (f ∷ fs) h =
    ap₂ (λ x xs. x ∷ xs) (ap₂ (λ k v. (k, v)) (c e.0 f.0 h.0.0) (d e.1 f.1 h.0.1)) (clone-entries C D c d es fs h.1)

-- what a map holds that may be written: what it held, or a clone of that
pub own-entries : {K V S : Type 0} (C : K → K → Type 0) (D : V → V → Type 0) → IsSameClone C → IsSameClone D
    → (m own : HashMap K V S) → (own ≡ m) ⊎ IsClone C D m own → own.entries ≡ m.entries
own-entries C D c d m own (inl h) = ap (λ n. n.entries) h
own-entries C D c d m own (inr h) = clone-entries C D c d m.entries own.entries h

pub is-ok : {T E : Type 0} (r : Result T E) (x : T) → r ≡ Ok x → IsOk r
is-ok r x h = subst IsOk (sym h) refl
