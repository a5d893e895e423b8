-- Entries of two maps, one after another.
use Rattle.std.proofs.Common.{◌≡◌, ℕ, suc, ◌+◌, length, List, [], ◌∷◌, ◌++◌, Bool, true, false, Option, Some, None}
use Rattle.std.proofs.Common.{Result, Ok, Err, map, position, refl, ap, ap₂, sym}
use Rattle.std.proofs.Common.{subst, ◌∙◌, arith, append_assoc, append-nil}
use Rattle.std.specs.Prelude.{OnOk, OnErr}
use Rattle.std.specs.Option.{option_map}
use Rattle.std.specs.List.{IsDistinct, AllByRecursion}
use Rattle.std.proofs.lemmas.List.{map-append, length-map}
use Rattle.indexmap.specs.IndexMap.{insert_all}
use Rattle.error_events.specs.Entries.{AreNew}
use Rattle.error_events.proofs.EntrySteps.{position-first, position-later, insert-absent}

keys : {K V : Type 0} → List (K × V) → List K
keys = map (λ e. e.0)

-- the place in two lists, from those in each
abbrev place_in_both : Option ℕ → ℕ → Option ℕ → Option ℕ
place_in_both (Some i) n o = Some i
place_in_both None n o = option_map (λ j. n + j) o

later-both : (f o : Option ℕ) (n : ℕ)
    → option_map suc (place_in_both f n o) ≡ place_in_both (option_map suc f) (suc n) o
later-both (Some i) o n = refl
later-both None None n = refl
later-both None (Some j) n = let e : suc (n + j) ≡ suc n + j = omega arith in ap Some e

none-before : (o : Option ℕ) → o ≡ option_map (λ j. 0 + j) o
none-before None = refl
none-before (Some j) = let e : j ≡ 0 + j = omega arith in ap Some e

position-append : {X : Type 0} (p : X → Bool) (xs ys : List X)
    → position p (xs ++ ys) ≡ place_in_both (position p xs) (length xs) (position p ys)
position-append p [] ys = none-before (position p ys)
position-append p (x ∷ xs) ys = go (p x) refl (position-append p xs ys)
  where
    go : (b : Bool) → p x ≡ b → position p (xs ++ ys) ≡ place_in_both (position p xs) (length xs) (position p ys)
        → position p (x ∷ (xs ++ ys)) ≡ place_in_both (position p (x ∷ xs)) (suc (length xs)) (position p ys)
    go true t rest =
        position-first p x (xs ++ ys) t ∙ ap (λ o. place_in_both o (suc (length xs)) (position p ys))
        (sym (position-first p x xs t))
    go false t rest =
        position-later p x (xs ++ ys) t ∙ ap (option_map suc) rest
        ∙ later-both (position p xs) (position p ys) (length xs)
        ∙ ap (λ o. place_in_both o (suc (length xs)) (position p ys)) (sym (position-later p x xs t))

module _ {K V : Type 0} (p : K → Bool) (es fs all : List (K × V)) (whole : es ++ fs ≡ all) where
  both : position p (map (λ e. e.0) all) ≡ place_in_both (position p (map (λ e. e.0) es)) (length (map (λ e. e.0) es))
      (position p (map (λ e. e.0) fs))
  both =
      ap (λ l. position p (map (λ e. e.0) l)) (sym whole) ∙ ap (position p) (map-append (λ e. e.0) es fs)
      ∙ position-append p (map (λ e. e.0) es) (map (λ e. e.0) fs)

  pub found-first : (i : ℕ) → position p (map (λ e. e.0) es) ≡ Some i → Some i ≡ position p (map (λ e. e.0) all)
  found-first i h =
      sym (both ∙ ap (λ o. place_in_both o (length (map (λ e. e.0) es)) (position p (map (λ e. e.0) fs))) h)

  pub found-second : (j : ℕ) → position p (map (λ e. e.0) es) ≡ None → position p (map (λ e. e.0) fs) ≡ Some j
      → Some (length es + j) ≡ position p (map (λ e. e.0) all)
  found-second j h k =
      sym (both ∙ ap₂ (λ o q. place_in_both o (length (map (λ e. e.0) es)) q) h k
      ∙ ap (λ n. Some (n + j)) (length-map es (λ e. e.0)))

  pub found-not : position p (map (λ e. e.0) es) ≡ None → position p (map (λ e. e.0) fs) ≡ None
      → None ≡ position p (map (λ e. e.0) all)
  found-not h k = sym (both ∙ ap₂ (λ o q. place_in_both o (length (map (λ e. e.0) es)) q) h k)

  none-apart : (o q : Option ℕ) (n : ℕ) → place_in_both o n q ≡ None → (o ≡ None) × (q ≡ None)
  none-apart None None n h = (refl, refl)
  none-apart None (Some j) n h = cc
  none-apart (Some i) q n h = cc

  pub absent-both : position p (map (λ e. e.0) all) ≡ None
      → (position p (map (λ e. e.0) es) ≡ None) × (position p (map (λ e. e.0) fs) ≡ None)
  absent-both h =
      none-apart (position p (map (λ e. e.0) es)) (position p (map (λ e. e.0) fs)) (length (map (λ e. e.0) es))
      (sym both ∙ h)

-- keys that are new --

pub new-none : {K V : Type 0} (eq : K → K → Bool) (old es : List (K × V)) → es ≡ [] → AreNew eq old es
unfolding AreNew
new-none eq old es h = subst (AreNew eq old) (sym h) tt

new-more : {K V : Type 0} (eq : K → K → Bool) (k : K) (v : V) (old es : List (K × V)) → AreNew eq old es
    → position (eq k) (map (λ e. e.0) old) ≡ None → AreNew eq old (es ++ (k, v) ∷ [])
unfolding AreNew
new-more eq k v old [] h n = (n, tt)
new-more eq k v old (e ∷ es) h n = (h.0, new-more eq k v old es h.1 n)

pub new-pushed : {K V A B : Type 0} (eq : K → K → Bool) (k : K) (v : V) (old es new : List (K × V)) (r : Result A B)
    → AreNew eq old es → position (eq k) (map (λ e. e.0) old) ≡ None
    → OnOk r (new ≡ es ++ (k, v) ∷ []) → OnErr r (new ≡ es) → AreNew eq old new
new-pushed eq k v old es new (Ok x) h n done failed = subst (AreNew eq old) (sym done) (new-more eq k v old es h n)
new-pushed eq k v old es new (Err x) h n done failed = subst (AreNew eq old) (sym failed) h

-- all entries of one map inserted in another --

module _ {K V : Type 0} (eq : K → K → Bool) (flips : (x y : K) → eq x y ≡ eq y x) where
  -- another entry in front of new ones, whose keys are not its key
  new-after : (e : K × V) (old es : List (K × V)) → AreNew eq old es
      → AllByRecursion (λ y. eq e.0 y ≡ false) (map (λ x. x.0) es) → AreNew eq (old ++ e ∷ []) es
  unfolding AreNew
  new-after e old [] h d = tt
  new-after e old (f ∷ fs) h d = (
    sym (found-not (eq f.0) old (e ∷ []) (old ++ e ∷ []) refl h.0
        (position-later (eq f.0) e.0 [] (flips f.0 e.0 ∙ d.0))),
    new-after e old fs h.1 d.1,
  )

  pub insert_all-new : (old es : List (K × V)) → AreNew eq old es → IsDistinct eq (map (λ x. x.0) es)
      → insert_all eq old es ≡ old ++ es
  unfolding AreNew IsDistinct
  insert_all-new old [] h d = sym (append-nil old)
  insert_all-new old (e ∷ es) h d =
      ap (λ l. insert_all eq l es) (insert-absent eq e.0 e.1 old h.0)
      ∙ insert_all-new (old ++ e ∷ []) es (new-after e old es h.1 d.0) d.1 ∙ append_assoc old (e ∷ []) es
