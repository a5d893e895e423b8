-- Values that are kept by key, as one key after another is met: the list of the distinct keys, each with its value.
use Rattle.std.proofs.Common.{◌≡◌, Bool, true, false, not, cond, ◌||◌, List, [], ◌∷◌, ◌++◌, filter, map, refl, ap, sym}
use Rattle.std.proofs.Common.{◌∙◌, append-nil, subst}
use Rattle.std.proofs.lemmas.Bool.{false≢true}
use Rattle.std.specs.Bool.{Decides}
use Rattle.std.specs.List.{list_any}
use Rattle.std.proofs.lemmas.List.Elements.{filter-append}
use Rattle.texts.specs.Distinct.{distinct}

pub any-left : (a b : Bool) → (a || b) ≡ false → a ≡ false
any-left false b h = refl
any-left true b h = cc

pub any-right : (a b : Bool) → (a || b) ≡ false → b ≡ false
any-right false b h = h
any-right true b h = cc

module _ {K : Type 0} (same : K → K → Bool) (decides : (a b : K) → Decides (same a b) (a ≡ b)) where
  -- the other way round
  pub apart : (a b : K) → same a b ≡ false → same b a ≡ false
  apart a b h = go (same b a) refl
    where
      go : (t : Bool) → same b a ≡ t → same b a ≡ false
      go false e = e
      go true e =
          absurd (false≢true (sym h ∙ (decides a b).1 (sym ((decides b a).0 e))))

  -- an item that is none of some
  abbrev is-none : K → List K → Type 0
  is-none k ks = list_any (same k) ks ≡ false

  -- of the others than one, as many are the same as an item apart from it
  any-kept : (k x : K) → same k x ≡ false → (ks : List K)
      → list_any (same k) (filter (λ other. not (same other x)) ks) ≡ list_any (same k) ks
  any-kept k x h [] = refl
  any-kept k x h (d ∷ ds) = go (same d x) (same k d) refl refl (any-kept k x h ds)
    where
      go : (b c : Bool) → same d x ≡ b → same k d ≡ c
          → list_any (same k) (filter (λ other. not (same other x)) ds) ≡ list_any (same k) ds
          → list_any (same k) (cond (not b) (d ∷ filter (λ other. not (same other x)) ds)
          (filter (λ other. not (same other x)) ds)) ≡ (c || list_any (same k) ds)
      go false c e f rest = λ i. f i || rest i
      go true false e f rest = rest
      go true true e f rest =
          absurd (false≢true (sym h ∙ subst (λ y. same y x ≡ true) (sym ((decides k d).0 f)) e))

  -- and of the others than an item, none is
  none-kept : (k : K) (ks : List K) → list_any (same k) (filter (λ other. not (same other k)) ks) ≡ false
  none-kept k [] = refl
  none-kept k (d ∷ ds) = go (same d k) refl (none-kept k ds)
    where
      go : (b : Bool) → same d k ≡ b → list_any (same k) (filter (λ other. not (same other k)) ds) ≡ false
          → list_any (same k) (cond (not b) (d ∷ filter (λ other. not (same other k)) ds)
          (filter (λ other. not (same other k)) ds)) ≡ false
      go false e rest = λ i. apart d k e i || rest i
      go true e rest = rest

  -- the distinct items are the same items
  pub any-distinct : (k : K) (ks : List K) → list_any (same k) (distinct same ks) ≡ list_any (same k) ks
  unfolding distinct
  any-distinct k [] = refl
  any-distinct k (x ∷ xs) = go (same k x) refl (any-distinct k xs)
    where
      go : (b : Bool) → same k x ≡ b → list_any (same k) (distinct same xs) ≡ list_any (same k) xs
          → (b || list_any (same k) (filter (λ other. not (same other x)) (distinct same xs)))
          ≡ (b || list_any (same k) xs)
      go true e rest = refl
      go false e rest = any-kept k x e (distinct same xs) ∙ rest

  -- none of them is there twice
  abbrev AreApart : List K → Type 0
  AreApart [] = Unit {0}
  AreApart (d ∷ ds) = is-none d ds × AreApart ds

  apart-filter : (test : K → Bool) (ds : List K) → AreApart ds → AreApart (filter test ds)
  apart-filter test [] h = tt
  apart-filter test (d ∷ ds) h = go (test d) (none-filter d ds h.0) (apart-filter test ds h.1)
    where
      none-filter : (k : K) (ds : List K) → is-none k ds → is-none k (filter test ds)
      none-filter k [] n = refl
      none-filter k (e ∷ es) n =
          keep (test e) (any-left _ _ n) (none-filter k es (any-right (same k e) (list_any (same k) es) n))
        where
          keep : (b : Bool) → same k e ≡ false → is-none k (filter test es)
              → is-none k (cond b (e ∷ filter test es) (filter test es))
          keep true f rest = λ i. f i || rest i
          keep false f rest = rest

      go : (b : Bool) → is-none d (filter test ds) → AreApart (filter test ds)
          → AreApart (cond b (d ∷ filter test ds) (filter test ds))
      go true n rest = (n, rest)
      go false n rest = rest

  pub are-apart : (ks : List K) → AreApart (distinct same ks)
  unfolding distinct
  are-apart [] = tt
  are-apart (k ∷ ks) = (
    none-kept k (distinct same ks),
    apart-filter (λ other. not (same other k)) (distinct same ks)
        (are-apart ks),
  )

  -- another item
  pub distinct-more : (ks : List K) (k : K) → distinct same (ks ++ k ∷ [])
      ≡ cond (list_any (same k) ks) (distinct same ks) (distinct same ks ++ k ∷ [])
  unfolding distinct
  distinct-more [] k = refl
  distinct-more (x ∷ xs) k =
      ap (λ ds. x ∷ filter others ds) (distinct-more xs k) ∙ go (same k x) (list_any (same k) xs) refl
    where
      others : K → Bool
      others = λ other. not (same other x)

      go : (b c : Bool) → same k x ≡ b → x ∷ filter others (cond c (distinct same xs) (distinct same xs ++ k ∷ []))
          ≡ cond (b || c) (x ∷ filter others (distinct same xs)) ((x ∷ filter others (distinct same xs)) ++ k ∷ [])
      go true true e = refl
      go false true e = refl
      go true false e =
          ap (λ ds. x ∷ ds) (filter-append others (distinct same xs) (k ∷ [])
          ∙ ap (λ t. filter others (distinct same xs) ++ cond (not t) (k ∷ []) []) e
          ∙ append-nil (filter others (distinct same xs)))
      go false false e =
          ap (λ ds. x ∷ ds) (filter-append others (distinct same xs) (k ∷ [])
          ∙ ap (λ t. filter others (distinct same xs) ++ cond (not t) (k ∷ []) []) e)

  -- values by key: that of a key is raised, or a new one comes last
  module _ {V : Type 0} (raise : V → V) (new : V) where
    -- each key with its value
    abbrev pub valued : (K → V) → List K → List (K × V)
    valued value ds = map (λ d. (d, value d)) ds

    abbrev pub put : List (K × V) → K → List (K × V)
    put [] k = (k, new) ∷ []
    put (e ∷ es) k = cond (same k e.0) ((e.0, raise e.1) ∷ es) (e ∷ put es k)

    -- the values before a key is met, and after it
    module _ (before after : K → V) (k : K) (others : (d : K) → same k d ≡ false → after d ≡ before d) where
      others-same : (ds : List K) → is-none k ds → valued before ds ≡ valued after ds
      others-same [] n = refl
      others-same (d ∷ ds) n =
          let here = others d (any-left (same k d) (list_any (same k) ds) n) in
          let rest = others-same ds (any-right (same k d) (list_any (same k) ds) n) in
          λ i. (d, sym here i) ∷ rest i

      put-new : (ds : List K) → is-none k ds → after k ≡ new
          → put (valued before ds) k ≡ valued after (ds ++ k ∷ [])
      put-new [] n fresh = λ i. (k, sym fresh i) ∷ []
      put-new (d ∷ ds) n fresh =
          let away = any-left (same k d) (list_any (same k) ds) n in
          let rest = put-new ds (any-right (same k d) (list_any (same k) ds) n) fresh in
          ap (λ b. cond b ((d, raise (before d)) ∷ valued before ds)
          ((d, before d) ∷ put (valued before ds) k)) away
          ∙ (λ i. (d, sym (others d away) i) ∷ rest i)

      put-known : (ds : List K) → AreApart ds → list_any (same k) ds ≡ true → after k ≡ raise (before k)
          → put (valued before ds) k ≡ valued after ds
      put-known [] h any raised = cc
      put-known (d ∷ ds) h any raised = go (same k d) refl any (put-known ds h.1)
        where
          go : (b : Bool) → same k d ≡ b → (b || list_any (same k) ds) ≡ true
              → (list_any (same k) ds ≡ true → after k ≡ raise (before k)
              → put (valued before ds) k ≡ valued after ds)
              → cond b ((d, raise (before d)) ∷ valued before ds)
              ((d, before d) ∷ put (valued before ds) k) ≡ (d, after d) ∷ valued after ds
          go true e some rest =
              let is = (decides k d).0 e in
              let none : is-none k ds = subst (λ x. is-none x ds) (sym is) h.0 in
              let value : raise (before d) ≡ after d = subst (λ x. raise (before x) ≡ after x) is (sym raised) in
              let behind = others-same ds none in
              λ i. (d, value i) ∷ behind i
          go false e some rest = let behind = rest some raised in λ i. (d, sym (others d e) i) ∷ behind i

      -- the distinct keys with their values, as the key is met
      pub put-next : (ks : List K) → after k ≡ raise (before k) → (list_any (same k) ks ≡ false → after k ≡ new)
          → put (valued before (distinct same ks)) k
          ≡ valued after (distinct same (ks ++ k ∷ []))
      put-next ks raised fresh =
          go (list_any (same k) ks) refl ∙ ap (valued after) (sym (distinct-more ks k))
        where
          go : (b : Bool) → list_any (same k) ks ≡ b → put (valued before (distinct same ks)) k
              ≡ valued after (cond b (distinct same ks) (distinct same ks ++ k ∷ []))
          go true e = put-known (distinct same ks) (are-apart ks) (any-distinct k ks ∙ e) raised
          go false e = put-new (distinct same ks) (any-distinct k ks ∙ e) (fresh e)
