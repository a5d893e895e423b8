-- What groups show, as their keys and counts change.
use Rattle.std.proofs.Common.{◌≡◌, ℕ, zero, suc, length, List, [], ◌∷◌, ◌++◌, Bool, true, false, if◌then◌else◌, Option}
use Rattle.std.proofs.Common.{Some, None, map, position, slice_get, refl, ap, ap₂, sym, ◌∙◌, arith}
use Rattle.std.specs.Prelude.{Result, Ok, Err, OnOk, OnErr}
use Rattle.std.specs.Option.{option_map}
use Rattle.error_events.specs.Counts.{raised_at}
use Rattle.error_events.specs.CountLists.{counts_of}
use Rattle.error_events.specs.Adding.{add_group, raised}
use Rattle.error_events.specs.Shown.{counted, groups_of}
use Rattle.error_events.specs.declared.event.Key.{Key}
use Rattle.error_events.specs.declared.event.Note.{Note}
use Rattle.error_events.specs.declared.event.Group.{Group}
use Rattle.error_events.specs.declared.groups.Groups.{Groups}
use Rattle.error_events.specs.contracts.event.KeyPartialEq.TheImpl.{ghosts}
use Rattle.error_events.proofs.KeySteps.{key-eq}
use Rattle.error_events.proofs.EntrySteps.{position-first, position-later, none-first, none-later}

-- a group of a key, a note and a count
abbrev pub shown : Key × Note → ℕ → Group
shown e count = record { kind = e.0.kind; trace = e.0.trace; count = count; note = e.1 }

-- the key of a group
abbrev pub key_of : Group → Key
key_of g = record { kind = g.kind; trace = g.trace }

keys : List (Key × Note) → List Key
keys = map (λ e. e.0)

pub shown-none : (groups : Groups) → groups.known ≡ [] → groups_of groups ≡ []
unfolding groups_of counted
shown-none groups h = ap (λ es. counted es (counts_of groups.counts)) h

pub shown-same : (old new : Groups) → new.known ≡ old.known → counts_of new.counts ≡ (counts_of old.counts)
    → groups_of new ≡ groups_of old
unfolding groups_of
shown-same old new h k = ap₂ counted h k

length-counted : (es : List (Key × Note)) (ns : List ℕ) → length es ≡ length ns → length (counted es ns) ≡ length ns
unfolding counted
length-counted [] ns h = h
length-counted (e ∷ es) [] h = omega arith
length-counted (e ∷ es) (n ∷ ns) h = let k : length es ≡ length ns = omega arith in ap suc (length-counted es ns k)

pub length-shown : (groups : Groups) → length (groups_of groups) ≡ length (counts_of groups.counts)
unfolding groups_of
length-shown groups = length-counted groups.known (counts_of groups.counts) groups.matched

-- the group at a place --

get-no-key : (es : List (Key × Note)) (ns : List ℕ) (i : ℕ) → slice_get es i ≡ None → slice_get (counted es ns) i ≡ None
unfolding counted
get-no-key [] ns i h = refl
get-no-key (e ∷ es) [] i h = refl
get-no-key (e ∷ es) (n ∷ ns) zero h = cc
get-no-key (e ∷ es) (n ∷ ns) (suc i) h = get-no-key es ns i h

get-no-count : (es : List (Key × Note)) (ns : List ℕ) (i : ℕ) → slice_get ns i ≡ None
    → slice_get (counted es ns) i ≡ None
unfolding counted
get-no-count [] ns i h = refl
get-no-count (e ∷ es) [] i h = refl
get-no-count (e ∷ es) (n ∷ ns) zero h = cc
get-no-count (e ∷ es) (n ∷ ns) (suc i) h = get-no-count es ns i h

get-both : (es : List (Key × Note)) (ns : List ℕ) (i : ℕ) (e : Key × Note) (n : ℕ) → slice_get es i ≡ Some e
    → slice_get ns i ≡ Some n → slice_get (counted es ns) i ≡ Some (shown e n)
unfolding counted
get-both [] ns i e n h k = cc
get-both (x ∷ xs) [] i e n h k = cc
get-both (x ∷ xs) (m ∷ ms) zero e n h k = let a : x ≡ e = cc in let b : m ≡ n = cc in ap₂ (λ s t. Some (shown s t)) a b
get-both (x ∷ xs) (m ∷ ms) (suc i) e n h k = get-both xs ms i e n h k

pub shown-no-key : (groups : Groups) (i : ℕ) → slice_get groups.known i ≡ None → slice_get (groups_of groups) i ≡ None
unfolding groups_of
shown-no-key groups i = get-no-key groups.known (counts_of groups.counts) i

pub shown-no-count : (groups : Groups) (i : ℕ) → slice_get (counts_of groups.counts) i ≡ None
    → slice_get (groups_of groups) i ≡ None
unfolding groups_of
shown-no-count groups i = get-no-count groups.known (counts_of groups.counts) i

pub shown-both : (groups : Groups) (i : ℕ) (e : Key × Note) (n : ℕ) → slice_get groups.known i ≡ Some e
    → slice_get (counts_of groups.counts) i ≡ Some n
    → slice_get (groups_of groups) i ≡ Some (shown e n)
unfolding groups_of
shown-both groups i = get-both groups.known (counts_of groups.counts) i

-- a group that counts more --

none-not-some : {X : Type 0} (i : X) {A : Type 0} → None ≡ Some i → A
none-not-some i h = cc

later-zero : {A : Type 0} (o : Option ℕ) → option_map suc o ≡ Some 0 → A
later-zero None h = cc
later-zero (Some k) h = let e : suc k ≡ 0 = cc in absurd (omega arith)

later-suc : (o : Option ℕ) (i : ℕ) → option_map suc o ≡ Some (suc i) → o ≡ Some i
later-suc None i h = cc
later-suc (Some k) i h = let e : suc k ≡ suc i = cc in let f : k ≡ i = omega arith in ap Some f

first-zero : {A : Type 0} (i : ℕ) → Some 0 ≡ Some (suc i) → A
first-zero i h = let e : 0 ≡ suc i = cc in absurd (omega arith)

raised-counted : (es : List (Key × Note)) (ns : List ℕ) (g : Group) (i : ℕ) → length es ≡ length ns
    → position (ghosts.eq (key_of g)) (keys es) ≡ Some i
    → counted es (raised_at ns i g.count) ≡ add_group (counted es ns) g
unfolding counted add_group keys
raised-counted [] ns g i l h = cc
raised-counted (e ∷ es) [] g i l h = absurd (omega arith)
raised-counted (e ∷ es) (n ∷ ns) g zero l h = go (ghosts.eq (key_of g) e.0) refl
  where
    go : (b : Bool) → ghosts.eq (key_of g) e.0 ≡ b
        → counted (e ∷ es) (raised_at (n ∷ ns) 0 g.count) ≡ add_group (counted (e ∷ es) (n ∷ ns)) g
    go true t =
        ap (λ b. if b then raised g (shown e n) ∷ counted es ns
        else shown e n ∷ add_group (counted es ns) g) (sym t ∙ key-eq (key_of g) e.0)
    go false t =
        later-zero (position (ghosts.eq (key_of g)) (keys es))
        (sym (position-later (ghosts.eq (key_of g)) e.0 (keys es) t) ∙ h)
raised-counted (e ∷ es) (n ∷ ns) g (suc i) l h = go (ghosts.eq (key_of g) e.0) refl (raised-counted es ns g i)
  where
    rest_long : length es ≡ length ns
    rest_long = omega arith

    go : (b : Bool) → ghosts.eq (key_of g) e.0 ≡ b
        → (length es ≡ length ns → position (ghosts.eq (key_of g)) (keys es) ≡ Some i
        → counted es (raised_at ns i g.count) ≡ add_group (counted es ns) g)
        → counted (e ∷ es) (raised_at (n ∷ ns) (suc i) g.count) ≡ add_group (counted (e ∷ es) (n ∷ ns)) g
    go true t rest = first-zero i (sym (position-first (ghosts.eq (key_of g)) e.0 (keys es) t) ∙ h)
    go false t rest =
        ap (λ gs. shown e n ∷ gs) (rest rest_long
        (later-suc (position (ghosts.eq (key_of g)) (keys es)) i
        (sym (position-later (ghosts.eq (key_of g)) e.0 (keys es) t) ∙ h)))
        ∙ ap (λ b. if b then raised g (shown e n) ∷ counted es ns
        else shown e n ∷ add_group (counted es ns) g) (sym t ∙ key-eq (key_of g) e.0)

begun-counted : (es : List (Key × Note)) (ns : List ℕ) (g : Group) → length es ≡ length ns
    → position (ghosts.eq (key_of g)) (keys es) ≡ None
    → counted (es ++ (key_of g, g.note) ∷ []) (ns ++ g.count ∷ []) ≡ add_group (counted es ns) g
unfolding counted add_group keys
begun-counted [] [] g l h = refl
begun-counted [] (n ∷ ns) g l h = absurd (omega arith)
begun-counted (e ∷ es) [] g l h = absurd (omega arith)
begun-counted (e ∷ es) (n ∷ ns) g l h =
    let rest_long : length es ≡ length ns = omega arith in
    ap (λ gs. shown e n ∷ gs) (begun-counted es ns g rest_long (none-later (ghosts.eq (key_of g)) e.0 (keys es) h))
    ∙ ap (λ b. if b then raised g (shown e n) ∷ counted es ns
    else shown e n ∷ add_group (counted es ns) g) (sym (none-first (ghosts.eq (key_of g)) e.0 (keys es) h)
    ∙ key-eq (key_of g) e.0)

module _ (old new : Groups) (g : Group) where
  pub shown-raised : (i : ℕ) → position (ghosts.eq (key_of g)) (map (λ e. e.0) old.known) ≡ Some i
      → new.known ≡ old.known → counts_of new.counts ≡ raised_at (counts_of old.counts) i g.count
      → groups_of new ≡ add_group (groups_of old) g
  unfolding groups_of keys
  shown-raised i h k n = ap₂ counted k n ∙ raised-counted old.known (counts_of old.counts) g i old.matched h

  pub shown-raised-ok : {A B : Type 0} (r : Result A B) (i : ℕ)
      → position (ghosts.eq (key_of g)) (map (λ e. e.0) old.known) ≡ Some i → new.known ≡ old.known
      → OnOk r (counts_of new.counts ≡ raised_at (counts_of old.counts) i g.count)
      → OnOk r (groups_of new ≡ add_group (groups_of old) g)
  shown-raised-ok (Ok x) i h k n = shown-raised i h k n
  shown-raised-ok (Err x) i h k n = tt

  pub shown-raised-err : {A B : Type 0} (r : Result A B) → new.known ≡ old.known
      → OnErr r (counts_of new.counts ≡ counts_of old.counts) → OnErr r (groups_of new ≡ groups_of old)
  shown-raised-err (Ok x) k n = tt
  shown-raised-err (Err x) k n = shown-same old new k n

  pub shown-begun : position (ghosts.eq (key_of g)) (map (λ e. e.0) old.known) ≡ None
      → new.known ≡ old.known ++ (key_of g, g.note) ∷ [] → counts_of new.counts ≡ (counts_of old.counts) ++ g.count ∷ []
      → groups_of new ≡ add_group (groups_of old) g
  unfolding groups_of keys
  shown-begun h k n = ap₂ counted k n ∙ begun-counted old.known (counts_of old.counts) g old.matched h

  pub shown-begun-ok : {A B : Type 0} (r : Result A B)
      → position (ghosts.eq (key_of g)) (map (λ e. e.0) old.known) ≡ None
      → OnOk r (new.known ≡ old.known ++ (key_of g, g.note) ∷ [])
      → OnOk r (counts_of new.counts ≡ (counts_of old.counts) ++ g.count ∷ [])
      → OnOk r (groups_of new ≡ add_group (groups_of old) g)
  shown-begun-ok (Ok x) h k n = shown-begun h k n
  shown-begun-ok (Err x) h k n = tt

  pub shown-begun-err : {A B : Type 0} (r : Result A B) → OnErr r (new.known ≡ old.known)
      → OnErr r (counts_of new.counts ≡ (counts_of old.counts)) → OnErr r (groups_of new ≡ groups_of old)
  shown-begun-err (Ok x) k n = tt
  shown-begun-err (Err x) k n = shown-same old new k n
