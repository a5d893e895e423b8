-- Maps in order of age: none, another one, and two as one.
use Rattle.std.proofs.Common.{◌≡◌, ℕ, ◌+◌, ◌≤◌, length, take, List, [], ◌∷◌, ◌++◌, Bool, Result, Ok, Err, refl, ap, ap₂}
use Rattle.std.proofs.Common.{sym, subst, ◌∙◌, append_assoc, append-nil, length-append}
use Rattle.std.specs.Prelude.{IfOk}
use Rattle.std.proofs.lemmas.List.Concat.{flat_map-append}
use Rattle.std.proofs.lemmas.List.{take-append-le}
use Rattle.error_events.specs.Entries.{AreNew}
use Rattle.error_events.specs.Layers.{AreApart, entries_in}
use Rattle.error_events.proofs.LayerSteps.{absent-both}

-- the entries --

pub entries-push : {X : Type 0} (maps : List (List X)) (young : List X)
    → entries_in (maps ++ young ∷ []) ≡ entries_in maps ++ young
entries-push maps young =
    flat_map-append (λ entries. entries) maps (young ∷ []) ∙ ap (λ rest. entries_in maps ++ rest) (append-nil young)

pub entries-merged : {X : Type 0} (before : List (List X)) (last young whole : List X) → whole ≡ last ++ young
    → entries_in (before ++ whole ∷ []) ≡ entries_in ((before ++ last ∷ []) ++ young ∷ [])
entries-merged before last young whole h =
    entries-push before whole ∙ ap (λ rest. entries_in before ++ rest) h
    ∙ sym (append_assoc (entries_in before) last young)
    ∙ ap (λ front. front ++ young) (sym (entries-push before last)) ∙ sym (entries-push (before ++ last ∷ []) young)

-- some maps, cut and with one after them
pub put-is : {X : Type 0} (read reserved cut new : List X) (kept : ℕ) (whole : X) → new ≡ cut ++ whole ∷ []
    → cut ≡ take kept reserved → read ≡ reserved → new ≡ take kept read ++ whole ∷ []
put-is read reserved cut new kept whole d e f = d ∙ ap (λ maps. maps ++ whole ∷ []) (e ∙ ap (take kept) (sym f))

pub length-pushed : {X : Type 0} (maps new : List (List X)) (young copy : List X) (before more len : ℕ)
    → entries_in new ≡ entries_in (maps ++ copy ∷ []) → copy ≡ young
    → before ≡ length (entries_in maps) → more ≡ length young → len ≡ before + more → len ≡ length (entries_in new)
length-pushed maps new young copy before more len h same b m l =
    l ∙ ap₂ (λ x y. x + y) b (m ∙ ap length (sym same))
    ∙ sym (ap length (h ∙ entries-push maps copy) ∙ length-append (entries_in maps) copy)

-- the keys --

module _ {K V : Type 0} (eq : K → K → Bool) where
  pub apart-none : (maps : List (List (K × V))) → maps ≡ [] → AreApart eq maps × (0 ≡ length (entries_in maps))
  unfolding AreApart
  apart-none maps h = subst (λ ms. AreApart eq ms × (0 ≡ length (entries_in ms))) (sym h) (tt, refl)

  new-parts : (xs ys es : List (K × V)) → AreNew eq (xs ++ ys) es → AreNew eq xs es × AreNew eq ys es
  unfolding AreNew
  new-parts xs ys [] h = (tt, tt)
  new-parts xs ys (e ∷ es) h =
      let here = absent-both (eq e.0) xs ys (xs ++ ys) refl h.0 in let rest = new-parts xs ys es h.1 in
      ((here.0, rest.0), (here.1, rest.1))

  new-append : (old es fs : List (K × V)) → AreNew eq old es → AreNew eq old fs → AreNew eq old (es ++ fs)
  unfolding AreNew
  new-append old [] fs h k = k
  new-append old (e ∷ es) fs h k = (h.0, new-append old es fs h.1 k)

  pub apart-push : (maps : List (List (K × V))) (young : List (K × V)) → AreApart eq maps
      → AreNew eq (entries_in maps) young → AreApart eq (maps ++ young ∷ [])
  unfolding AreApart AreNew
  apart-push [] young h n = (tt, tt)
  apart-push (x ∷ xs) young h n =
      let parts = new-parts x (entries_in xs) young n in (
        subst (AreNew eq x) (sym (entries-push xs young)) (new-append x (entries_in xs) young h.0 parts.0),
        apart-push xs young h.1 parts.1,
      )

  module _ (last young : List (K × V)) where
    pub apart-last : (before : List (List (K × V))) → AreApart eq ((before ++ last ∷ []) ++ young ∷ [])
        → AreNew eq last young
    unfolding AreApart
    apart-last [] h = subst (AreNew eq last) (append-nil young) h.0
    apart-last (x ∷ xs) h = apart-last xs h.1

    pub apart-merged : (whole : List (K × V)) → whole ≡ last ++ young → (before : List (List (K × V)))
        → AreApart eq ((before ++ last ∷ []) ++ young ∷ []) → AreApart eq (before ++ whole ∷ [])
    unfolding AreApart AreNew
    apart-merged whole e [] h = (tt, tt)
    apart-merged whole e (x ∷ xs) h =
        (subst (AreNew eq x) (sym (entries-merged xs last young whole e)) h.0, apart-merged whole e xs h.1)

  -- maps, and a copy of a new one after them
  pub apart-copied : (maps : List (List (K × V))) (old young copy : List (K × V)) → copy ≡ young → entries_in maps ≡ old
      → AreApart eq maps → AreNew eq old young → AreApart eq (maps ++ copy ∷ [])
  apart-copied maps old young copy h v a n =
      subst (λ m. AreApart eq (maps ++ m ∷ [])) (sym h)
      (apart-push maps young a (subst (λ es. AreNew eq es young) (sym v) n))

  module _ (maps before : List (List (K × V))) (last young : List (K × V)) (front : maps ≡ before ++ last ∷ []) where
    pub last-apart : AreApart eq (maps ++ young ∷ []) → AreNew eq last young
    last-apart h = apart-last last young before (subst (λ ms. AreApart eq (ms ++ young ∷ [])) front h)

    kept-front : (n : ℕ) → n ≤ length before → take n maps ≡ take n before
    kept-front n h = ap (take n) front ∙ take-append-le n before (last ∷ []) h

    module _ (whole : List (K × V)) (joined : whole ≡ last ++ young) where
      pub joined-apart : AreApart eq (maps ++ young ∷ []) → AreApart eq (before ++ whole ∷ [])
      joined-apart h =
          apart-merged last young whole joined before (subst (λ ms. AreApart eq (ms ++ young ∷ [])) front h)

      pub kept-entries : {E : Type 0} (r : Result (ℕ × List (K × V)) E) → IfOk r (λ x. x.0 ≤ length before)
          → IfOk r (λ x. entries_in (take x.0 before ++ x.1 ∷ []) ≡ entries_in (before ++ whole ∷ []))
          → IfOk r (λ x. entries_in (take x.0 maps ++ x.1 ∷ []) ≡ entries_in (maps ++ young ∷ []))
      kept-entries (Ok x) n h =
          ap (λ ms. entries_in (ms ++ x.1 ∷ [])) (kept-front x.0 n) ∙ h ∙ entries-merged before last young whole joined
          ∙ ap (λ ms. entries_in (ms ++ young ∷ [])) (sym front)
      kept-entries (Err x) n h = tt

      pub kept-apart : {E : Type 0} (r : Result (ℕ × List (K × V)) E) → IfOk r (λ x. x.0 ≤ length before)
          → IfOk r (λ x. AreApart eq (take x.0 before ++ x.1 ∷ []))
          → IfOk r (λ x. AreApart eq (take x.0 maps ++ x.1 ∷ []))
      kept-apart (Ok x) n h = subst (λ ms. AreApart eq (ms ++ x.1 ∷ [])) (sym (kept-front x.0 n)) h
      kept-apart (Err x) n h = tt
