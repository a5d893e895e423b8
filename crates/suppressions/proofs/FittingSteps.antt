-- A pattern and its first piece, one case at a time.
use Rattle.std.proofs.Common.{◌≡◌, ℕ, suc, ◌+◌, ◌<◌, ◌⊎◌, inl, inr, List, [], ◌∷◌, ◌++◌, length, get_or, take, drop}
use Rattle.std.proofs.Common.{Bool, true, false, IsTrue, refl, sym, ap, subst, ◌∙◌}
use Rattle.std.proofs.Common.{append_assoc, append-nil, arith, add-one, drop-cons, length-drop}
use Rattle.std.proofs.Math.Seq.{drop-append_seam}
use Rattle.std.proofs.lemmas.List.{take-append-drop, length-append, drop-drop}
use Rattle.std.proofs.lemmas.Bool.{false≢true}
use Rattle.suppressions.specs.Fitting.{FitsPieces, FitsFront, IsStar, IsSingle, StandsAt}

-- the piece at a place
pub stands_here : {X : Type 0} (xs : List X) (at : ℕ) (x : X) → at < length xs → x ≡ get_or xs at x → StandsAt xs at x
stands_here xs at x lt is = rw (add-one) (drop-cons xs at x lt ∙ ap (λ y. y ∷ drop (suc at) xs) (sym is))

pub stands_within : {X : Type 0} (xs : List X) (at : ℕ) (x : X) → StandsAt xs at x → at < length xs
stands_within xs at x here = omega (arith, ap length here, length-drop at xs)

pub some_stands : {X : Type 0} (xs : List X) (at : ℕ) → at < length xs → (x : X) × StandsAt xs at x
some_stands {X} xs at lt = go (drop at xs) refl
  where
    go : (ys : List X) → drop at xs ≡ ys → (x : X) × StandsAt xs at x
    go [] is = absurd (omega (arith, ap length is, length-drop at xs))
    go (y ∷ ys) is =
        let others : drop (at + 1) xs ≡ ys = ap (λ n. drop n xs) (omega arith) ∙ sym (drop-drop 1 at xs)
        ∙ ap (drop 1) is in
        (y, is ∙ ap (λ zs. y ∷ zs) (sym others))

one_part : {X : Type 0} (x : X) (part rest t : List X) → x ∷ t ≡ part ++ rest → length part ≡ 1 → part ≡ x ∷ []
one_part x [] rest t e one = absurd (omega (arith, one))
one_part x (y ∷ []) rest t e one = cc
one_part x (y ∷ z ∷ part) rest t e one = absurd (omega (arith, one))

drop_one : {X : Type 0} (part rest t : List X) → t ≡ part ++ rest → length part ≡ 1 → drop 1 t ≡ rest
drop_one part rest t e one =
    ap (λ u. drop 1 u) e ∙ ap (λ n. drop n (part ++ rest)) (sym one) ∙ drop-append_seam part rest

none_before : {X : Type 0} (part rest : List X) → [] ≡ part ++ rest → part ≡ []
none_before [] rest e = refl
none_before (y ∷ part) rest e = absurd (cc)

none_after : {X : Type 0} (part rest : List X) → [] ≡ part ++ rest → rest ≡ []
none_after [] rest e = sym e
none_after (y ∷ part) rest e = absurd (cc)

module _ {P X : Type 0} (Fits : P → List X → Type 0) where
  -- no items
  pub star_none : (p : P) (ps : List P) → IsStar Fits p → FitsPieces Fits ps [] → FitsPieces Fits (p ∷ ps) []
  star_none p ps star h = ([], [], refl, star [], h)

  pub rest_none : (p : P) (ps : List P) → FitsPieces Fits (p ∷ ps) [] → FitsPieces Fits ps []
  rest_none p ps h = let none = none_after h.0 h.1 h.2 in rw none at h.4

  pub single_none : (p : P) (ps : List P) → IsSingle Fits p → FitsPieces Fits (p ∷ ps) [] → ⊥
  single_none p ps single h = absurd (omega (arith, ap length h.2, length-append h.0 h.1, single h.0 h.3))

  module _ (may_go_on : Bool) where
    -- a part that the first piece fits, and a rest
    parted : (p : P) (ps : List P) (t : List X) → FitsFront Fits may_go_on (p ∷ ps) t
        → (part : List X) × (rest : List X) × (t ≡ part ++ rest) × Fits p part × FitsFront Fits may_go_on ps rest
    parted p ps t h =
        let s = h.3 in
        (s.0, s.1 ++ h.1, h.2 ∙ ap (λ u. u ++ h.1) s.2 ∙ append_assoc s.0 s.1 h.1, s.3, (s.1, h.1, refl, s.4, h.4))

    joined : (p : P) (ps : List P) (part rest : List X) → Fits p part → FitsFront Fits may_go_on ps rest
        → FitsFront Fits may_go_on (p ∷ ps) (part ++ rest)
    joined p ps part rest fits h =
        (part ++ h.0, h.1, ap (λ u. part ++ u) h.2 ∙ sym (append_assoc part h.0 h.1), (part, h.0, refl, fits, h.3), h.4)

    -- a star takes any items
    pub star_takes : (k : ℕ) (p : P) (ps : List P) (t : List X) → IsStar Fits p → FitsFront Fits may_go_on ps (drop k t)
        → FitsFront Fits may_go_on (p ∷ ps) t
    star_takes k p ps t star h =
        subst (λ (u : List X). FitsFront Fits may_go_on (p ∷ ps) u) (take-append-drop k t)
        (joined p ps (take k t) (drop k t) (star (take k t)) h)

    -- what follows a piece fits after some items
    pub some_taken : (p : P) (ps : List P) (t : List X) → FitsFront Fits may_go_on (p ∷ ps) t
        → (k : ℕ) × FitsFront Fits may_go_on ps (drop k t)
    some_taken p ps t h =
        let s = parted p ps t h in
        let seam : drop (length s.0) t ≡ s.1 = ap (drop (length s.0)) s.2 ∙ drop-append_seam s.0 s.1 in
        (length s.0, rw seam s.4)

    -- another piece takes the first item
    pub single_rest : (p : P) (ps : List P) (t : List X) → IsSingle Fits p → FitsFront Fits may_go_on (p ∷ ps) t
        → FitsFront Fits may_go_on ps (drop 1 t)
    single_rest p ps t single h =
        let s = parted p ps t h in
        rw (drop_one s.0 s.1 t s.2 (single s.0 s.3)) s.4

    -- which it fits
    pub single_first : (p : P) (x : X) (ps : List P) (t : List X) → IsSingle Fits p
        → FitsFront Fits may_go_on (p ∷ ps) (x ∷ t) → Fits p (x ∷ [])
    single_first p x ps t single h =
        let s = parted p ps (x ∷ t) h in
        subst (λ (u : List X). Fits p u) (one_part x s.0 s.1 t s.2 (single s.0 s.3)) s.3

    pub one_more : (p : P) (x : X) (ps : List P) (t : List X) → Fits p (x ∷ []) → FitsFront Fits may_go_on ps t
        → FitsFront Fits may_go_on (p ∷ ps) (x ∷ t)
    one_more p x ps t fits h = joined p ps (x ∷ []) t fits h

    -- at the pattern's end
    pub end_open : (t : List X) → IsTrue may_go_on → FitsFront Fits may_go_on [] t
    end_open t goes_on = ([], t, refl, refl, inl goes_on)

    pub end_closed : (t : List X) → may_go_on ≡ false → FitsFront Fits may_go_on [] t → t ≡ []
    end_closed t closed h = go h.4
      where
        go : IsTrue may_go_on ⊎ (h.1 ≡ []) → t ≡ []
        go (inl goes_on) = absurd (let both : true ≡ false = sym goes_on ∙ closed in cc)
        go (inr none) = h.2 ∙ ap (λ u. u ++ h.1) h.3 ∙ none

    -- at the items' end
    pub none_left : (ps : List P) → FitsFront Fits may_go_on ps [] → FitsPieces Fits ps []
    none_left ps h = let none = none_before h.0 h.1 h.2 in rw none at h.3

    pub none_whole : (ps : List P) → FitsPieces Fits ps [] → FitsFront Fits may_go_on ps []
    none_whole ps h = ([], [], refl, h, inr refl)

  -- items that may not continue after a pattern are all fitted
  pub front_closed : (ps : List P) (xs : List X) → FitsFront Fits false ps xs → FitsPieces Fits ps xs
  front_closed ps xs h = go h.4
    where
      go : IsTrue false ⊎ (h.1 ≡ []) → FitsPieces Fits ps xs
      go (inl goes_on) = absurd (false≢true goes_on)
      go (inr none) =
          let whole : h.0 ≡ xs = sym (append-nil h.0) ∙ ap (λ u. h.0 ++ u) (sym none) ∙ sym h.2 in
          subst (λ (u : List X). FitsPieces Fits ps u) whole h.3

  pub closed_front : (ps : List P) (xs : List X) → FitsPieces Fits ps xs → FitsFront Fits false ps xs
  closed_front ps xs h = (xs, [], sym (append-nil xs), h, inr refl)

pub one_stands : {X : Type 0} (xs : List X) (at : ℕ) (x y : X) → StandsAt xs at x → StandsAt xs at y → x ≡ y
one_stands xs at x y here there =
    let both : x ∷ drop (at + 1) xs ≡ y ∷ drop (at + 1) xs = sym here ∙ there in cc
