-- Groups of a list of errors, as errors are added.
use Rattle.std.proofs.Common.{◌≡◌, ℕ, ◌+◌, List, [], ◌∷◌, ◌++◌, Bool, true, false, cond, ◌&&◌, ◌||◌, refl, ap, ap₂, sym}
use Rattle.std.proofs.Common.{subst, ◌∙◌, map, min, append_assoc, append-nil, zero-add, arith}
use Rattle.std.specs.List.{count_by, list_any}
use Rattle.std.proofs.lemmas.List.{map-append}
use Rattle.std.proofs.lemmas.List.Folds.{list_any-append}
use Rattle.std.proofs.lemmas.List.Sums.{sum_by-append}
use Rattle.error_events.proofs.SameKeys.{key-refl, key-joined, same-parts, same-symm, or-false-left, or-false-right}
use Rattle.error_events.specs.Groups.{grouped, firsts_after, group_of, same_key, same_kind, same_trace, most}
use Rattle.error_events.specs.Adding.{add_event, add_events, add_group, alone, is_like, raised, GroupsGrow}
use Rattle.error_events.specs.Adding.{GroupsGrowBy}
use Rattle.error_events.specs.declared.event.Event.{Event}
use Rattle.error_events.specs.declared.event.Group.{Group}

-- the first errors of their keys --

-- the error, unless one of these has its key
unless-known : List Event → Event → List Event
unless-known seen e = cond (list_any (λ d. same_key d e) seen) [] (e ∷ [])

firsts-more : (seen es : List Event) (e : Event)
    → firsts_after seen (es ++ e ∷ []) ≡ firsts_after seen es ++ unless-known (seen ++ firsts_after seen es) e
unfolding firsts_after unless-known
firsts-more seen [] e = ap (λ s. unless-known s e) (sym (append-nil seen))
firsts-more seen (x ∷ xs) e =
    go (list_any (λ d. same_key d x) seen) (firsts-more seen xs e) (firsts-more (seen ++ x ∷ []) xs e)
  where
    kept : List Event
    kept = firsts_after (seen ++ x ∷ []) xs

    go : (b : Bool) → firsts_after seen (xs ++ e ∷ []) ≡ firsts_after seen xs
        ++ unless-known (seen ++ firsts_after seen xs) e
        → firsts_after (seen ++ x ∷ []) (xs ++ e ∷ []) ≡ kept ++ unless-known ((seen ++ x ∷ []) ++ kept) e
        → cond b (firsts_after seen (xs ++ e ∷ [])) (x ∷ firsts_after (seen ++ x ∷ []) (xs ++ e ∷ []))
        ≡ cond b (firsts_after seen xs) (x ∷ kept) ++ unless-known (seen ++ cond b (firsts_after seen xs) (x ∷ kept)) e
    go true old new = old
    go false old new = ap (λ ys. x ∷ ys) (new ∙ ap (λ s. kept ++ unless-known s e) (append_assoc seen (x ∷ []) kept))

-- no first error has a key, so none has
none-known : (fs : List Event) (e x : Event) → list_any (λ d. same_key d e) fs ≡ false
    → list_any (λ d. same_key d x) fs ≡ true → same_key e x ≡ false
none-known [] e x h k = cc
none-known (f ∷ fs) e x h k =
    split (same_key f x) (same_key e x) refl refl (none-known fs e x (or-false-right (same_key f e) _ h))
  where
    split : (p q : Bool) → same_key f x ≡ p → same_key e x ≡ q
        → (list_any (λ d. same_key d x) fs ≡ true → same_key e x ≡ false) → q ≡ false
    split p false a b others = refl
    split true true a b others = sym (key-joined f e x a b) ∙ or-false-left _ _ h
    split false true a b others = sym b ∙ others (sym (ap (λ t. t || list_any (λ d. same_key d x) fs) a) ∙ k)

none-counted : (seen es : List Event) (e : Event) → list_any (λ d. same_key d e) (seen ++ firsts_after seen es) ≡ false
    → count_by (same_key e) es ≡ 0
unfolding firsts_after
none-counted seen [] e h = refl
none-counted seen (x ∷ xs) e h =
    go (list_any (λ d. same_key d x) seen) refl h (none-counted seen xs e) (none-counted (seen ++ x ∷ []) xs e)
  where
    turned : (q : Bool) → same_key e x ≡ q → same_key x e ≡ false → q ≡ false
    turned false a b = refl
    turned true a b = sym (key-joined x e x (key-refl x) a) ∙ b

    not-counted : same_key e x ≡ false → count_by (same_key e) xs ≡ 0 → count_by (same_key e) (x ∷ xs) ≡ 0
    not-counted mine rest =
        sum_by-append (λ y. cond (same_key e y) 1 0) (x ∷ []) xs ∙ ap₂ (λ b n. (0 + cond b 1 0) + n) mine rest

    go : (b : Bool) → list_any (λ d. same_key d x) seen ≡ b
        → list_any (λ d. same_key d e) (seen ++ cond b (firsts_after seen xs) (x ∷ firsts_after (seen ++ x ∷ []) xs))
        ≡ false
        → (list_any (λ d. same_key d e) (seen ++ firsts_after seen xs) ≡ false → count_by (same_key e) xs ≡ 0)
        → (list_any (λ d. same_key d e) ((seen ++ x ∷ []) ++ firsts_after (seen ++ x ∷ []) xs) ≡ false
        → count_by (same_key e) xs ≡ 0)
        → count_by (same_key e) (x ∷ xs) ≡ 0
    go true k g old new =
        let others = sym (list_any-append (λ d. same_key d e) seen (firsts_after seen xs)) ∙ g in
        not-counted (none-known seen e x (or-false-left _ _ others) k) (old g)
    go false k g old new =
        let regrouped = ap (list_any (λ d. same_key d e))
        (append_assoc seen (x ∷ []) (firsts_after (seen ++ x ∷ []) xs)) ∙ g in
        let parts = sym (list_any-append (λ d. same_key d e) seen (x ∷ firsts_after (seen ++ x ∷ []) xs)) ∙ g in
        let theirs : same_key x e ≡ false = or-false-left _ _
        (or-false-right (list_any (λ d. same_key d e) seen) _ parts) in
        not-counted (turned (same_key e x) refl theirs) (new regrouped)

-- groups, as another error is counted --

key-symm : (d e : Event) → same_key d e ≡ same_key e d
unfolding same_key
key-symm d e = same-symm d.kind e.kind d.trace e.trace

count-more : (f e : Event) (es : List Event)
    → count_by (same_key f) (es ++ e ∷ []) ≡ count_by (same_key f) es + cond (same_key f e) 1 0
count-more f e es =
    sum_by-append (λ x. cond (same_key f x) 1 0) es (e ∷ [])
    ∙ ap (λ n. count_by (same_key f) es + n) (zero-add (cond (same_key f e) 1 0))

-- a group with another count
abbrev counted : Event → ℕ → Group
counted f n = record { kind = f.kind; trace = f.trace; count = n; note = f.note }

-- the group, if it is of the error's key with one error more
raised_if : Event → Group → Group
raised_if e g = cond (is_like (alone e) g) (raised (alone e) g) g

count-raised : (f : Event) (b : Bool) (n : ℕ)
    → counted f (min (n + cond b 1 0) most) ≡ cond b (counted f (min (min n most + 1) most)) (counted f (min n most))
count-raised f true n = let e : min (n + 1) most ≡ min (min n most + 1) most = omega arith in ap (counted f) e
count-raised f false n = let e : n + 0 ≡ n = omega arith in ap (λ m. counted f (min m most)) e

group-more : (es : List Event) (e f : Event) → group_of (es ++ e ∷ []) f ≡ raised_if e (group_of es f)
unfolding group_of same_key raised_if
group-more es e f =
    ap (λ n. counted f (min n most)) (count-more f e es) ∙ count-raised f (same_key f e) (count_by (same_key f) es)
    ∙ ap (λ b. cond b (counted f (min (min (count_by (same_key f) es) most + 1) most))
    (counted f (min (count_by (same_key f) es) most))) (key-symm f e)

groups-more : (es : List Event) (e : Event) (fs : List Event)
    → map (group_of (es ++ e ∷ [])) fs ≡ map (raised_if e) (map (group_of es) fs)
groups-more es e [] = refl
groups-more es e (f ∷ fs) = ap₂ (λ g gs. g ∷ gs) (group-more es e f) (groups-more es e fs)

-- a group has the key of the error that it is of
known-groups : (es : List Event) (e : Event) (fs : List Event)
    → list_any (is_like (alone e)) (map (group_of es) fs) ≡ list_any (λ d. same_key d e) fs
unfolding group_of same_key
known-groups es e [] = refl
known-groups es e (f ∷ fs) = ap₂ (λ s t. s || t) (key-symm e f) (known-groups es e fs)

-- the group of an error whose key is new
group-new : (es : List Event) (e : Event) → count_by (same_key e) es ≡ 0 → group_of (es ++ e ∷ []) e ≡ alone e
unfolding group_of
group-new es e h =
    let one : count_by (same_key e) (es ++ e ∷ []) ≡ 1 = count-more e e es
    ∙ ap₂ (λ n b. n + cond b 1 0) h (key-refl e) in
    ap (λ n. counted e (min n most)) one

-- groups of other keys stay
raised-none : (e : Event) (gs : List Group) → list_any (is_like (alone e)) gs ≡ false → map (raised_if e) gs ≡ gs
unfolding raised_if
raised-none e [] h = refl
raised-none e (g ∷ gs) h =
    ap₂ (λ x xs. x ∷ xs) (kept (is_like (alone e) g) (or-false-left (is_like (alone e) g) _ h))
    (raised-none e gs (or-false-right (is_like (alone e) g) _ h))
  where
    kept : (b : Bool) → b ≡ false → cond b (raised (alone e) g) g ≡ g
    kept b k = rw k refl

-- another error raises the group of its key, or makes a group
grouped-raised : (es : List Event) (e : Event)
    → grouped (es ++ e ∷ []) ≡ cond (list_any (is_like (alone e)) (grouped es)) (map (raised_if e) (grouped es))
    (grouped es ++ alone e ∷ [])
unfolding grouped unless-known
grouped-raised es e =
    ap (map (group_of (es ++ e ∷ []))) (firsts-more [] es e)
    ∙ map-append (group_of (es ++ e ∷ [])) firsts (unless-known firsts e)
    ∙ ap (λ gs. gs ++ map (group_of (es ++ e ∷ [])) (unless-known firsts e)) (groups-more es e firsts)
    ∙ go (list_any (λ d. same_key d e) firsts) refl
    ∙ ap (λ b. cond b (map (raised_if e) (map (group_of es) firsts)) (map (group_of es) firsts ++ alone e ∷ []))
    (sym (known-groups es e firsts))
  where
    firsts : List Event
    firsts = firsts_after [] es

    go : (b : Bool) → list_any (λ d. same_key d e) firsts ≡ b
        → map (raised_if e) (map (group_of es) firsts) ++ map (group_of (es ++ e ∷ [])) (cond b [] (e ∷ []))
        ≡ cond b (map (raised_if e) (map (group_of es) firsts)) (map (group_of es) firsts ++ alone e ∷ [])
    go true h = append-nil _
    go false h =
        ap₂ (λ gs g. gs ++ g ∷ []) (raised-none e (map (group_of es) firsts) (known-groups es e firsts ∙ h))
        (group-new es e (none-counted [] es e h))

-- groups have keys of their own --

unfoldable pub Apart : List Group → Type 0
Apart [] = Unit {0}
Apart (g ∷ gs) = (list_any (is_like g) gs ≡ false) × Apart gs

-- groups that are like one are like another of its key
likes-same : (h g : Group) (gs : List Group) → is_like h g ≡ true → list_any (is_like h) gs ≡ list_any (is_like g) gs
likes-same h g gs k =
    let e = same-parts h.kind g.kind h.trace g.trace k in
    ap₂ (λ l t. list_any (λ x. same_kind l x.kind && same_trace t x.trace) gs) e.kind e.trace

-- where groups are apart, the group of a key is raised once
add-apart : (gs : List Group) (e : Event) → Apart gs
    → cond (list_any (is_like (alone e)) gs) (map (raised_if e) gs) (gs ++ alone e ∷ []) ≡ add_event gs e
unfolding add_group raised_if Apart
add-apart [] e h = refl
add-apart (g ∷ gs) e h = go (is_like (alone e) g) refl (list_any (is_like (alone e)) gs) refl (add-apart gs e h.1)
  where
    go : (b : Bool) → is_like (alone e) g ≡ b → (c : Bool) → list_any (is_like (alone e)) gs ≡ c
        → cond c (map (raised_if e) gs) (gs ++ alone e ∷ []) ≡ add_group gs (alone e)
        → cond (b || c) (cond b (raised (alone e) g) g ∷ map (raised_if e) gs) (g ∷ (gs ++ alone e ∷ []))
        ≡ cond b (raised (alone e) g ∷ gs) (g ∷ add_group gs (alone e))
    go true k c l rest = ap (λ t. raised (alone e) g ∷ t) (raised-none e gs (likes-same (alone e) g gs k ∙ h.0))
    go false k true l rest = ap (λ t. g ∷ t) rest
    go false k false l rest = ap (λ t. g ∷ t) rest

-- a group that is like neither the others nor the new one
none-like-added : (g x : Group) (gs : List Group) → is_like g x ≡ false → list_any (is_like g) gs ≡ false
    → list_any (is_like g) (add_group gs x) ≡ false
unfolding add_group
none-like-added g x [] h k = ap (λ b. b || false) h
none-like-added g x (y ∷ ys) h k = go (is_like x y) (none-like-added g x ys h (or-false-right (is_like g y) _ k))
  where
    go : (b : Bool) → list_any (is_like g) (add_group ys x) ≡ false
        → list_any (is_like g) (cond b (raised x y ∷ ys) (y ∷ add_group ys x)) ≡ false
    go true rest = k
    go false rest = ap (λ c. c || list_any (is_like g) (add_group ys x)) (or-false-left (is_like g y) _ k) ∙ rest

apart-added : (gs : List Group) (x : Group) → Apart gs → Apart (add_group gs x)
unfolding Apart add_group
apart-added [] x h = (refl, tt)
apart-added (g ∷ gs) x h = go (is_like x g) refl (apart-added gs x h.1)
  where
    go : (b : Bool) → is_like x g ≡ b → Apart (add_group gs x) → Apart (cond b (raised x g ∷ gs) (g ∷ add_group gs x))
    go true k rest = h
    go false k rest = (none-like-added g x gs (same-symm g.kind x.kind g.trace x.trace ∙ k) h.0, rest)

apart-append : (es fs : List Event) → Apart (grouped es) → Apart (grouped (es ++ fs))
apart-append es [] h = subst (λ l. Apart (grouped l)) (sym (append-nil es)) h
apart-append es (f ∷ fs) h =
    subst (λ l. Apart (grouped l)) (append_assoc es (f ∷ []) fs)
    (apart-append (es ++ f ∷ []) fs (subst Apart (sym (grouped-raised es f ∙ add-apart (grouped es) f h))
    (apart-added (grouped es) (alone f) h)))

-- the groups of a list of errors are apart
pub grouped-apart : (es : List Event) → Apart (grouped es)
unfolding grouped firsts_after Apart
grouped-apart es = apart-append [] es tt

-- another error
pub grouped-more : GroupsGrow
grouped-more es e = grouped-raised es e ∙ add-apart (grouped es) e (grouped-apart es)

-- and several
pub grouped-append : GroupsGrowBy
unfolding add_events
grouped-append es [] = ap grouped (append-nil es)
grouped-append es (f ∷ fs) =
    ap grouped (sym (append_assoc es (f ∷ []) fs)) ∙ grouped-append (es ++ f ∷ []) fs
    ∙ ap (λ gs. add_events gs fs) (grouped-more es f)
