-- Adding groups to groups: in which order, and at once or one after another.
use Rattle.std.proofs.Common.{◌≡◌, ℕ, ◌+◌, min, List, [], ◌∷◌, Bool, true, false, if◌then◌else◌, ◌||◌, refl, ap, sym}
use Rattle.std.proofs.Common.{◌∙◌, arith}
use Rattle.std.specs.List.{list_any}
use Rattle.error_events.specs.Groups.{most}
use Rattle.error_events.specs.Adding.{add_group, is_like, raised}
use Rattle.error_events.specs.declared.event.Group.{Group}
use Rattle.error_events.proofs.SameKeys.{same-parts, same-from, same-symm}

-- groups of one key --

pub like-symm : (x g : Group) → is_like x g ≡ true → is_like g x ≡ true
like-symm x g h = same-symm g.kind x.kind g.trace x.trace ∙ h

pub like-trans : (x g h : Group) → is_like x g ≡ true → is_like g h ≡ true → is_like x h ≡ true
like-trans x g h p q =
    let a = same-parts x.kind g.kind x.trace g.trace p in let b = same-parts g.kind h.kind g.trace h.trace q in
    same-from x.kind h.kind x.trace h.trace (record { kind = a.kind ∙ b.kind; trace = a.trace ∙ b.trace })

-- a group that is like one is unlike what that one is unlike
pub like-unlike : (x g h : Group) → is_like x g ≡ true → is_like g h ≡ false → is_like x h ≡ false
like-unlike x g h p q = go (is_like x h) refl
  where
    go : (b : Bool) → is_like x h ≡ b → b ≡ false
    go true t = sym (like-trans g x h (like-symm x g p) t) ∙ q
    go false t = refl

-- another group --

pub add-like : (h a : Group) (as' : List Group) → is_like h a ≡ true → add_group (a ∷ as') h ≡ raised h a ∷ as'
unfolding add_group
add-like h a as' t = ap (λ b. if b then raised h a ∷ as' else a ∷ add_group as' h) t

pub add-unlike : (h a : Group) (as' : List Group) → is_like h a ≡ false → add_group (a ∷ as') h ≡ a ∷ add_group as' h
unfolding add_group
add-unlike h a as' t = ap (λ b. if b then raised h a ∷ as' else a ∷ add_group as' h) t

-- a group with another count
abbrev with_count : Group → ℕ → Group
with_count g n = record { kind = g.kind; trace = g.trace; count = n; note = g.note }

raised-swap : (x h a : Group) → raised x (raised h a) ≡ raised h (raised x a)
raised-swap x h a =
    let e : min (min (a.count + h.count) most + x.count) most
    ≡ min (min (a.count + x.count) most + h.count) most = omega arith in
    ap (with_count a) e

raised-once : (x h a : Group) → raised (raised x h) a ≡ raised x (raised h a)
raised-once x h a =
    let e : min (a.count + min (h.count + x.count) most) most
    ≡ min (min (a.count + h.count) most + x.count) most = omega arith in
    ap (with_count a) e

-- a group of a key that is there can be added before another, or after it
pub add-swap : (done : List Group) (h x : Group) → list_any (is_like x) done ≡ true
    → add_group (add_group done h) x ≡ add_group (add_group done x) h
add-swap [] h x k = cc
add-swap (a ∷ as') h x k = go (is_like h a) refl (is_like x a) refl (add-swap as' h x)
  where
    go : (b : Bool) → is_like h a ≡ b → (c : Bool) → is_like x a ≡ c
        → (list_any (is_like x) as' ≡ true → add_group (add_group as' h) x ≡ add_group (add_group as' x) h)
        → add_group (add_group (a ∷ as') h) x ≡ add_group (add_group (a ∷ as') x) h
    go true s true t rest =
        ap (λ gs. add_group gs x) (add-like h a as' s) ∙ add-like x (raised h a) as' t
        ∙ ap (λ g. g ∷ as') (raised-swap x h a)
        ∙ sym (add-like h (raised x a) as' s) ∙ ap (λ gs. add_group gs h) (sym (add-like x a as' t))
    go true s false t rest =
        ap (λ gs. add_group gs x) (add-like h a as' s) ∙ add-unlike x (raised h a) as' t
        ∙ sym (add-like h a (add_group as' x) s) ∙ ap (λ gs. add_group gs h) (sym (add-unlike x a as' t))
    go false s true t rest =
        ap (λ gs. add_group gs x) (add-unlike h a as' s) ∙ add-like x a (add_group as' h) t
        ∙ sym (add-unlike h (raised x a) as' s) ∙ ap (λ gs. add_group gs h) (sym (add-like x a as' t))
    go false s false t rest =
        ap (λ gs. add_group gs x) (add-unlike h a as' s) ∙ add-unlike x a (add_group as' h) t
        ∙ ap (λ gs. a ∷ gs) (rest (sym (ap (λ b. b || list_any (is_like x) as') t) ∙ k))
        ∙ sym (add-unlike h a (add_group as' x) s) ∙ ap (λ gs. add_group gs h) (sym (add-unlike x a as' t))

-- a group that was raised is added as the group and then what raised it
pub add-raised : (done : List Group) (h x : Group) → is_like x h ≡ true
    → add_group done (raised x h) ≡ add_group (add_group done h) x
unfolding add_group
add-raised [] h x k = sym (add-like x h [] k)
add-raised (a ∷ as') h x k = go (is_like h a) refl (add-raised as' h x k)
  where
    go : (b : Bool) → is_like h a ≡ b → add_group as' (raised x h) ≡ add_group (add_group as' h) x
        → add_group (a ∷ as') (raised x h) ≡ add_group (add_group (a ∷ as') h) x
    go true s rest =
        add-like (raised x h) a as' s ∙ ap (λ g. g ∷ as') (raised-once x h a)
        ∙ sym (add-like x (raised h a) as' (like-trans x h a k s))
        ∙ ap (λ gs. add_group gs x) (sym (add-like h a as' s))
    go false s rest =
        add-unlike (raised x h) a as' s ∙ ap (λ gs. a ∷ gs) rest
        ∙ sym (add-unlike x a (add_group as' h) (like-unlike x h a k s))
        ∙ ap (λ gs. add_group gs x) (sym (add-unlike h a as' s))

-- keys that are there --

or-true : (a : Bool) → (a || true) ≡ true
or-true true = refl
or-true false = refl

pub known-stays : (done : List Group) (h x : Group) → list_any (is_like x) done ≡ true
    → list_any (is_like x) (add_group done h) ≡ true
known-stays [] h x k = cc
known-stays (a ∷ as') h x k = go (is_like h a) refl (is_like x a) refl (known-stays as' h x)
  where
    go : (b : Bool) → is_like h a ≡ b → (c : Bool) → is_like x a ≡ c
        → (list_any (is_like x) as' ≡ true → list_any (is_like x) (add_group as' h) ≡ true)
        → list_any (is_like x) (add_group (a ∷ as') h) ≡ true
    go true s c t rest = ap (list_any (is_like x)) (add-like h a as' s) ∙ k
    go false s true t rest =
        ap (list_any (is_like x)) (add-unlike h a as' s) ∙ ap (λ b. b || list_any (is_like x) (add_group as' h)) t
    go false s false t rest =
        ap (list_any (is_like x)) (add-unlike h a as' s)
        ∙ ap (λ b. is_like x a || b) (rest (sym (ap (λ b. b || list_any (is_like x) as') t) ∙ k))
        ∙ or-true (is_like x a)

pub known-added : (done : List Group) (h x : Group) → is_like x h ≡ true
    → list_any (is_like x) (add_group done h) ≡ true
unfolding add_group
known-added [] h x k = ap (λ b. b || false) k
known-added (a ∷ as') h x k = go (is_like h a) refl (known-added as' h x k)
  where
    go : (b : Bool) → is_like h a ≡ b → list_any (is_like x) (add_group as' h) ≡ true
        → list_any (is_like x) (add_group (a ∷ as') h) ≡ true
    go true s rest =
        ap (list_any (is_like x)) (add-like h a as' s) ∙ ap (λ b. b || list_any (is_like x) as') (like-trans x h a k s)
    go false s rest =
        ap (list_any (is_like x)) (add-unlike h a as' s) ∙ ap (λ b. is_like x a || b) rest ∙ or-true (is_like x a)
