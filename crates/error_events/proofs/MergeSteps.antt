-- Regrouping groups is grouping the errors that are kept.
use Rattle.std.proofs.Common.{◌≡◌, ℕ, List, [], ◌∷◌, Bool, true, false, cond, if◌then◌else◌, ◌&&◌, ◌||◌, length, map}
use Rattle.std.proofs.Common.{filter, take, refl, ap, ap₂, sym, subst, ◌∙◌, arith}
use Rattle.std.specs.List.{list_any}
use Rattle.error_events.specs.Groups.{grouped, firsts_after, same_kind, same_trace}
use Rattle.error_events.specs.Adding.{add_group, add_event, add_events, alone, is_like, raised}
use Rattle.error_events.specs.Regrouping.{cut, is_kept, kept, regrouped, KeptByTest}
use Rattle.error_events.specs.Merging.{cut_group, merged}
use Rattle.error_events.specs.declared.kind.Kind.{Kind}
use Rattle.error_events.specs.declared.event.Event.{Event}
use Rattle.error_events.specs.declared.event.Group.{Group}
use Rattle.error_events.proofs.SameKeys.{same-parts, same-from, same-symm, or-false-left, or-false-right}
use Rattle.error_events.proofs.GroupSteps.{Apart, grouped-apart, grouped-append}
use Rattle.error_events.proofs.AddSteps.{add-like, add-unlike, add-swap, add-raised, known-stays, known-added}

module _ (callers : ℕ) (p : Kind → List ℕ → Bool) where
  -- these groups, with those that pass a test of kind and trace
  added : List Group → List Group → List Group
  added done [] = done
  added done (g ∷ gs) = added (cond (p g.kind g.trace) (add_group done (cut_group callers g)) done) gs

  -- a group of a key that is there can be added last
  added-swap : (gs done : List Group) (x : Group) → list_any (is_like x) done ≡ true
      → added (add_group done x) gs ≡ add_group (added done gs) x
  unfolding added
  added-swap [] done x k = refl
  added-swap (g ∷ gs) done x k = go (p g.kind g.trace) (added-swap gs done x k) (λ l. added-swap gs l x)
    where
      h : Group
      h = cut_group callers g

      go : (b : Bool) → added (add_group done x) gs ≡ add_group (added done gs) x
          → ((l : List Group) → list_any (is_like x) l ≡ true → added (add_group l x) gs ≡ add_group (added l gs) x)
          → added (cond b (add_group (add_group done x) h) (add_group done x)) gs
          ≡ add_group (added (cond b (add_group done h) done) gs) x
      go true old new =
          ap (λ l. added l gs) (sym (add-swap done h x k)) ∙ new (add_group done h) (known-stays done h x k)
      go false old new = old

  -- groups of one key pass alike, and are of one key when they are cut
  pass-alike : (x g : Group) → is_like x g ≡ true → p x.kind x.trace ≡ p g.kind g.trace
  pass-alike x g t = let e = same-parts x.kind g.kind x.trace g.trace t in ap₂ p e.kind e.trace

  cut-alike : (x g : Group) → is_like x g ≡ true → is_like (cut_group callers x) (cut_group callers g) ≡ true
  cut-alike x g t =
      let e = same-parts x.kind g.kind x.trace g.trace t in
      same-from x.kind g.kind (take callers x.trace) (take callers g.trace)
      (record { kind = e.kind; trace = ap (take callers) e.trace })

  added-pass : (gs done : List Group) (x : Group) → p x.kind x.trace ≡ true
      → added done (add_group gs x) ≡ add_group (added done gs) (cut_group callers x)
  unfolding added add_group
  added-pass [] done x t = ap (λ b. cond b (add_group done (cut_group callers x)) done) t
  added-pass (g ∷ gs) done x t = go (is_like x g) refl (λ l. added-pass gs l x t)
    where
      y : Group
      y = cut_group callers x

      h : Group
      h = cut_group callers g

      go : (b : Bool) → is_like x g ≡ b → ((l : List Group) → added l (add_group gs x) ≡ add_group (added l gs) y)
          → added done (add_group (g ∷ gs) x) ≡ add_group (added done (g ∷ gs)) y
      go true s rest =
          let q : p g.kind g.trace ≡ true = sym (pass-alike x g s) ∙ t in
          ap (added done) (add-like x g gs s)
          ∙ ap (λ b. added (cond b (add_group done (raised y h)) done) gs) q
          ∙ ap (λ l. added l gs) (add-raised done h y (cut-alike x g s))
          ∙ added-swap gs (add_group done h) y (known-added done h y (cut-alike x g s))
          ∙ ap (λ b. add_group (added (cond b (add_group done h) done) gs) y) (sym q)
      go false s rest = ap (added done) (add-unlike x g gs s) ∙ rest (cond (p g.kind g.trace) (add_group done h) done)

  added-fail : (gs done : List Group) (x : Group) → p x.kind x.trace ≡ false
      → added done (add_group gs x) ≡ added done gs
  unfolding added add_group
  added-fail [] done x t = ap (λ b. cond b (add_group done (cut_group callers x)) done) t
  added-fail (g ∷ gs) done x t = go (is_like x g) refl (λ l. added-fail gs l x t)
    where
      go : (b : Bool) → is_like x g ≡ b → ((l : List Group) → added l (add_group gs x) ≡ added l gs)
          → added done (add_group (g ∷ gs) x) ≡ added done (g ∷ gs)
      go true s rest =
          let q : p g.kind g.trace ≡ false = sym (pass-alike x g s) ∙ t in
          ap (added done) (add-like x g gs s)
          ∙ ap (λ b. added (cond b (add_group done (cut_group callers (raised x g))) done) gs) q
          ∙ ap (λ b. added (cond b (add_group done (cut_group callers g)) done) gs) (sym q)
      go false s rest =
          ap (added done) (add-unlike x g gs s)
          ∙ rest (cond (p g.kind g.trace) (add_group done (cut_group callers g)) done)

  -- the kept errors, one after another
  added-events : (es : List Event) (gs done : List Group)
      → added done (add_events gs es) ≡ add_events (added done gs)
      (map (cut callers) (filter (λ e. p e.kind e.trace) es))
  unfolding add_events
  added-events [] gs done = refl
  added-events (e ∷ es) gs done = go (p e.kind e.trace) refl (added-events es (add_event gs e) done)
    where
      rest : List Event
      rest = map (cut callers) (filter (λ x. p x.kind x.trace) es)

      go : (b : Bool) → p e.kind e.trace ≡ b
          → added done (add_events (add_event gs e) es) ≡ add_events (added done (add_event gs e)) rest
          → added done (add_events (add_event gs e) es) ≡ add_events (added done gs)
          (map (cut callers) (filter (λ x. p x.kind x.trace) (e ∷ es)))
      go true t others =
          others
          ∙ ap (λ l. add_events l rest) (added-pass gs done (alone e) t)
          ∙ ap (λ b. add_events (added done gs)
          (map (cut callers) (cond b (e ∷ filter (λ x. p x.kind x.trace) es) (filter (λ x. p x.kind x.trace) es))))
          (sym t)
      go false t others =
          others
          ∙ ap (λ l. add_events l rest) (added-fail gs done (alone e) t)
          ∙ ap (λ b. add_events (added done gs)
          (map (cut callers) (cond b (e ∷ filter (λ x. p x.kind x.trace) es) (filter (λ x. p x.kind x.trace) es))))
          (sym t)

-- all errors, one after another
grouped-events : (es : List Event) → grouped es ≡ add_events [] es
unfolding grouped firsts_after
grouped-events es = grouped-append [] es

-- which groups are kept --

-- two tests agree on groups
Agree : (p q : Kind → List ℕ → Bool) → List Group → Type 0
Agree p q [] = Unit {0}
Agree p q (g ∷ gs) = (p g.kind g.trace ≡ q g.kind g.trace) × Agree p q gs

added-agree : (callers : ℕ) (p q : Kind → List ℕ → Bool) (gs done : List Group) → Agree p q gs
    → added callers p done gs ≡ added callers q done gs
unfolding added Agree
added-agree callers p q [] done h = refl
added-agree callers p q (g ∷ gs) done h =
    ap (λ b. added callers p (cond b (add_group done (cut_group callers g)) done) gs) h.0
    ∙ added-agree callers p q gs (cond (q g.kind g.trace) (add_group done (cut_group callers g)) done) h.1

-- what is said of the first group doesn't count for groups of other keys
agree-later : (keep : Bool) (keeps : List Bool) (g : Group) (gs hs : List Group) → list_any (is_like g) hs ≡ false
    → Agree (is_kept keeps gs) (is_kept (keep ∷ keeps) (g ∷ gs)) hs
unfolding Agree is_kept
agree-later keep keeps g gs [] k = tt
agree-later keep keeps g gs (h ∷ hs) k = (
  ap (λ b. if b then keep else is_kept keeps gs h.kind h.trace)
      (sym (same-symm h.kind g.kind h.trace g.trace ∙ or-false-left (is_like g h) _ k)),
  agree-later keep keeps g gs hs (or-false-right (is_like g h) _ k),
)

merged-added : (callers : ℕ) (keeps : List Bool) (gs done : List Group) → length keeps ≡ length gs → Apart gs
    → merged callers done keeps gs ≡ added callers (is_kept keeps gs) done gs
unfolding merged added is_kept Apart
merged-added callers [] [] done l h = refl
merged-added callers [] (g ∷ gs) done l h = absurd (omega arith)
merged-added callers (keep ∷ keeps) [] done l h = absurd (omega arith)
merged-added callers (keep ∷ keeps) (g ∷ gs) done l h =
    let rest_long : length keeps ≡ length gs = omega arith in
    let own : (same_kind g.kind g.kind && same_trace g.trace g.trace)
    ≡ true = same-from g.kind g.kind g.trace g.trace (record { kind = refl; trace = refl }) in
    merged-added callers keeps gs (cond keep (add_group done (cut_group callers g)) done) rest_long h.1
    ∙ added-agree callers (is_kept keeps gs) (is_kept (keep ∷ keeps) (g ∷ gs)) gs
    (cond keep (add_group done (cut_group callers g)) done) (agree-later keep keeps g gs gs h.0)
    ∙ ap (λ b. added callers (is_kept (keep ∷ keeps) (g ∷ gs))
    (cond (if b then keep else is_kept keeps gs g.kind g.trace) (add_group done (cut_group callers g)) done) gs)
    (sym own)

-- regrouping
pub merged-regrouped : (callers : ℕ) (keeps : List Bool) (gs : List Group) (es : List Event) → length keeps ≡ length gs
    → gs ≡ grouped es → merged callers [] keeps gs ≡ regrouped callers keeps es
unfolding regrouped kept added
merged-regrouped callers keeps gs es l h =
    ap (λ x. merged callers [] keeps x) h
    ∙ merged-added callers keeps (grouped es) [] (l ∙ ap length h) (grouped-apart es)
    ∙ ap (λ x. added callers (is_kept keeps (grouped es)) [] x) (grouped-events es)
    ∙ added-events callers (is_kept keeps (grouped es)) es [] []
    ∙ sym (grouped-events (map (cut callers) (filter (λ e. is_kept keeps (grouped es) e.kind e.trace) es)))

-- groups that are kept by a test --

-- are the errors' keys among the groups'?
AllKnown : List Event → List Group → Type 0
AllKnown [] gs = Unit {0}
AllKnown (e ∷ es) gs = (list_any (is_like (alone e)) gs ≡ true) × AllKnown es gs

known-later : (es : List Event) (gs : List Group) (x : Group) → list_any (is_like x) gs ≡ true
    → list_any (is_like x) (add_events gs es) ≡ true
unfolding add_events
known-later [] gs x k = k
known-later (e ∷ es) gs x k = known-later es (add_event gs e) x (known-stays gs (alone e) x k)

all-known : (es : List Event) (gs : List Group) → AllKnown es (add_events gs es)
unfolding AllKnown add_events
all-known [] gs = tt
all-known (e ∷ es) gs = (
  known-later es (add_event gs e) (alone e)
      (known-added gs (alone e) (alone e) (same-from e.kind e.kind e.trace e.trace
      (record { kind = refl; trace = refl }))),
  all-known es (add_event gs e),
)

module _ (test : Kind → List ℕ → Bool) where
  kept-known : (gs : List Group) (e : Event) → list_any (is_like (alone e)) gs ≡ true
      → is_kept (map (λ g. test g.kind g.trace) gs) gs e.kind e.trace ≡ test e.kind e.trace
  unfolding is_kept
  kept-known [] e k = cc
  kept-known (g ∷ gs) e k = go (is_like (alone e) g) refl (kept-known gs e)
    where
      others : Bool
      others = is_kept (map (λ x. test x.kind x.trace) gs) gs e.kind e.trace

      go : (b : Bool) → is_like (alone e) g ≡ b
          → (list_any (is_like (alone e)) gs ≡ true → others ≡ test e.kind e.trace)
          → (if is_like (alone e) g then test g.kind g.trace else others) ≡ test e.kind e.trace
      go true t rest =
          let same = same-parts e.kind g.kind e.trace g.trace t in
          ap (λ c. if c then test g.kind g.trace else others) t ∙ sym (ap₂ test same.kind same.trace)
      go false t rest =
          ap (λ c. if c then test g.kind g.trace else others) t
          ∙ rest (sym (ap (λ c. c || list_any (is_like (alone e)) gs) t) ∙ k)

  kept-all : (gs : List Group) (es : List Event) → AllKnown es gs
      → filter (λ e. is_kept (map (λ g. test g.kind g.trace) gs) gs e.kind e.trace) es
      ≡ filter (λ e. test e.kind e.trace) es
  unfolding AllKnown
  kept-all gs [] h = refl
  kept-all gs (e ∷ es) h = ap₂ (λ b l. cond b (e ∷ l) l) (kept-known gs e h.0) (kept-all gs es h.1)

pub kept-by-test : KeptByTest
unfolding kept AllKnown
kept-by-test test es =
    let P : List Group → Type 0 = AllKnown es in
    kept-all test (grouped es) es (subst P (sym (grouped-events es)) (all-known es []))
