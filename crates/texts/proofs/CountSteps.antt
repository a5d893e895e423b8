-- Texts that are counted one after another: how often each is among those that were met.
use Rattle.std.proofs.Common.{◌≡◌, ℕ, ◌+◌, Bool, true, false, not, cond, List, [], ◌∷◌, ◌++◌, fold, map, refl}
use Rattle.std.proofs.Common.{ap, sym, ◌∙◌, append_assoc, append-nil, length, Some, None, position, unwrap_or, arith}
use Rattle.std.proofs.Common.{count_by, subst, zero, suc, ◌||◌, inl, inr}
use Rattle.std.specs.Prelude.{slice_get}
use Rattle.std.specs.List.{list_any, position_or_len}
use Rattle.std.specs.Str.{bytes_eq}
use Rattle.std.proofs.lemmas.Bool.{cases_lt, le-ltb, lt-ltb}
use Rattle.std.proofs.lemmas.List.Sums.{prefix_len-le-length, sum_by-cons, sum_by_push}
use Rattle.std.proofs.lemmas.Slice.Eq.{bytes_eq-Decides}
use Rattle.texts.specs.Distinct.{distinct}
use Rattle.texts.specs.Laws.{CountsTexts, NumbersTexts, times}
use Rattle.texts.specs.Tallied.{next_count, number_of, with_text}
use Rattle.texts.proofs.Grouping.{any-distinct, any-left, any-right, apart, distinct-more, put, put-next, valued}

-- the entries with another text are those with its count raised
with-text-is : (entries : List (List ℕ × ℕ)) (text : List ℕ)
    → with_text entries text ≡ put bytes_eq bytes_eq-Decides next_count 1 entries text
unfolding with_text
with-text-is [] text = refl
with-text-is (e ∷ es) text =
    ap (λ rest. cond (bytes_eq text e.0) ((e.0, next_count e.1) ∷ es) (e ∷ rest)) (with-text-is es text)

-- how often
one-more : (texts : List (List ℕ)) (text other : List ℕ)
    → count_by (λ t. bytes_eq t other) (texts ++ text ∷ [])
    ≡ count_by (λ t. bytes_eq t other) texts + cond (bytes_eq text other) 1 0
one-more texts text other = sum_by_push (λ t. cond (bytes_eq t other) 1 0) texts text

stays : (texts : List (List ℕ)) (text other : List ℕ) → bytes_eq text other ≡ false
    → times (texts ++ text ∷ []) other ≡ times texts other
stays texts text other h =
    let more = one-more texts text other ∙ ap (λ b. count_by (λ t. bytes_eq t other) texts + cond b 1 0) h in
    omega (arith, more)

rises : (texts : List (List ℕ)) (text : List ℕ) → times (texts ++ text ∷ []) text ≡ next_count (times texts text)
rises texts text =
    let itself = (bytes_eq-Decides text text).1 refl in
    let more = one-more texts text text ∙ ap (λ b. count_by (λ t. bytes_eq t text) texts + cond b 1 0) itself in
    omega (arith, more)

-- of a text that wasn't met, none is counted
none-met : (text : List ℕ) (texts : List (List ℕ)) → list_any (bytes_eq text) texts ≡ false → times texts text ≡ 0
none-met text texts h = let none = go texts h in omega (arith, none)
  where
    go : (texts : List (List ℕ)) → list_any (bytes_eq text) texts ≡ false
        → count_by (λ t. bytes_eq t text) texts ≡ 0
    go [] n = refl
    go (t ∷ ts) n =
        let away = apart bytes_eq bytes_eq-Decides text t (any-left (bytes_eq text t) _ n) in
        let rest = go ts (any-right (bytes_eq text t) (list_any (bytes_eq text) ts) n) in
        let here = sum_by-cons (λ u. cond (bytes_eq u text) 1 0) t ts in
        here ∙ (λ i. cond (away i) 1 0 + rest i)

-- the entries of some texts
abbrev entries : List ℕ → List (List ℕ) → List (List ℕ × ℕ)
entries first texts = valued bytes_eq bytes_eq-Decides next_count 1 (times texts) (distinct bytes_eq (first ∷ texts))

entries-more : (first : List ℕ) (texts : List (List ℕ)) (text : List ℕ)
    → with_text (entries first texts) text ≡ entries first (texts ++ text ∷ [])
entries-more first texts text =
    with-text-is (entries first texts) text
    ∙ put-next bytes_eq bytes_eq-Decides next_count 1 (times texts) (times (texts ++ text ∷ [])) text
    (stays texts text) (first ∷ texts) (rises texts text)
    (λ new. rises texts text
    ∙ ap next_count (none-met text texts (any-right (bytes_eq text first) (list_any (bytes_eq text) texts) new)))

counts-on : (first : List ℕ) (texts more : List (List ℕ))
    → fold with_text (entries first texts) more ≡ entries first (texts ++ more)
counts-on first texts [] = ap (entries first) (sym (append-nil texts))
counts-on first texts (text ∷ more) =
    ap (λ es. fold with_text es more) (entries-more first texts text) ∙ counts-on first (texts ++ text ∷ []) more
    ∙ ap (entries first) (append_assoc texts (text ∷ []) more)

pub counts-texts : CountsTexts
unfolding distinct
counts-texts first texts = counts-on first [] texts

-- ---- the number of a text

-- the first place with a text, which is the length where there is none
place-or-end : {A : Type 0} (test : A → Bool) (xs : List A)
    → unwrap_or (position test xs) (length xs) ≡ position_or_len test xs
place-or-end test xs = elim (cases_lt (position_or_len test xs) (length xs)) [
  | inl within ↦ ap (λ b. unwrap_or (cond b (Some (position_or_len test xs)) None) (length xs)) (lt-ltb _ _ within)
  | inr past ↦ (let most = prefix_len-le-length (λ x. not (test x)) xs in
      let end : length xs ≡ position_or_len test xs = omega arith in
      ap (λ b. unwrap_or (cond b (Some (position_or_len test xs)) None) (length xs)) (le-ltb _ _ past) ∙ end)
]

place-of-key : (text : List ℕ) (value : List ℕ → ℕ) (ds : List (List ℕ))
    → position_or_len (λ (e : List ℕ × ℕ). bytes_eq text e.0) (map (λ d. (d, value d)) ds)
    ≡ position_or_len (bytes_eq text) ds
place-of-key text value [] = refl
place-of-key text value (d ∷ ds) = ap (λ n. cond (not (bytes_eq text d)) (1 + n) 0) (place-of-key text value ds)

number-is : (text : List ℕ) (value : List ℕ → ℕ) (ds : List (List ℕ))
    → number_of (valued bytes_eq bytes_eq-Decides next_count 1 value ds) text ≡ position_or_len (bytes_eq text) ds
number-is text value ds =
    place-or-end (λ (e : List ℕ × ℕ). bytes_eq text e.0) (valued bytes_eq bytes_eq-Decides next_count 1 value ds)
    ∙ place-of-key text value ds

-- what comes first of a list stays there
stays-there : (xs ys : List (List ℕ)) (i : ℕ) (x : List ℕ) → slice_get xs i ≡ Some x
    → slice_get (xs ++ ys) i ≡ Some x
stays-there [] ys i x h = cc
stays-there (y ∷ xs) ys zero x h = h
stays-there (y ∷ xs) ys (suc i) x h = stays-there xs ys i x h

one-on : {A : Type 0} (x : A) (xs : List A) (n : ℕ) → slice_get (x ∷ xs) (1 + n) ≡ slice_get xs n
one-on x xs n = let one : 1 + n ≡ suc n = omega arith in ap (slice_get (x ∷ xs)) one

-- a text is at its place, or is put there as the last one
found : (text : List ℕ) (ds : List (List ℕ)) → slice_get (cond (list_any (bytes_eq text) ds) ds (ds ++ text ∷ []))
    (position_or_len (bytes_eq text) ds) ≡ Some text
found text [] = refl
found text (d ∷ ds) = go (bytes_eq text d) (list_any (bytes_eq text) ds) refl (found text ds)
  where
    n : ℕ
    n = position_or_len (bytes_eq text) ds

    go : (c b : Bool) → bytes_eq text d ≡ c → slice_get (cond b ds (ds ++ text ∷ [])) n ≡ Some text
        → slice_get (cond (c || b) (d ∷ ds) ((d ∷ ds) ++ text ∷ [])) (cond (not c) (1 + n) 0) ≡ Some text
    go true b e rest = ap Some (sym ((bytes_eq-Decides text d).0 e))
    go false true e rest = one-on d ds n ∙ rest
    go false false e rest = one-on d (ds ++ text ∷ []) n ∙ rest

-- more texts put none before those that there are
distinct-on : (texts more : List (List ℕ)) (i : ℕ) (x : List ℕ) → slice_get (distinct bytes_eq texts) i ≡ Some x
    → slice_get (distinct bytes_eq (texts ++ more)) i ≡ Some x
distinct-on texts [] i x h = subst (λ ts. slice_get (distinct bytes_eq ts) i ≡ Some x) (sym (append-nil texts)) h
distinct-on texts (text ∷ more) i x h =
    subst (λ ts. slice_get (distinct bytes_eq ts) i ≡ Some x) (append_assoc texts (text ∷ []) more)
    (distinct-on (texts ++ text ∷ []) more i x
    (ap (λ ds. slice_get ds i) (distinct-more bytes_eq bytes_eq-Decides texts text)
    ∙ go (list_any (bytes_eq text) texts)))
  where
    go : (b : Bool)
        → slice_get (cond b (distinct bytes_eq texts) (distinct bytes_eq texts ++ text ∷ [])) i ≡ Some x
    go true = h
    go false = stays-there (distinct bytes_eq texts) (text ∷ []) i x h

pub numbers-texts : NumbersTexts
numbers-texts first before text after =
    let texts = first ∷ before in
    let ds = distinct bytes_eq texts in
    ap (λ es. slice_get (distinct bytes_eq (texts ++ text ∷ after)) (number_of es text)) (counts-texts first before)
    ∙ ap (slice_get (distinct bytes_eq (texts ++ text ∷ after))) (number-is text (times before) ds)
    ∙ subst (λ ts. slice_get (distinct bytes_eq ts) (position_or_len (bytes_eq text) ds) ≡ Some text)
    (append_assoc texts (text ∷ []) after)
    (distinct-on (texts ++ text ∷ []) after (position_or_len (bytes_eq text) ds) text
    (ap (λ ds. slice_get ds (position_or_len (bytes_eq text) (distinct bytes_eq texts)))
    (distinct-more bytes_eq bytes_eq-Decides texts text
    ∙ ap (λ b. cond b ds (ds ++ text ∷ [])) (sym (any-distinct bytes_eq bytes_eq-Decides text texts)))
    ∙ found text ds))
