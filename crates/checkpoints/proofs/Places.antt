-- The place of a word, found by a search in the rows of its ranges.
use Rattle.std.proofs.Common.{◌≡◌, ℕ, zero, suc, ◌+◌, ◌-◌, ◌/◌, ◌<◌, ◌≤◌, ◌∙◌, ◌++◌, Bool, true, false, cond, List, []}
use Rattle.std.proofs.Common.{◌∷◌, refl, ap, arith, max, length, get_or}
use Rattle.std.proofs.lemmas.Bool.Decides.{nat_tests}
use Rattle.std.specs.List.Sorted.{IsNonDecreasingBy}
use Rattle.run_values.specs.declared.span.Span.{Span}
use Rattle.checkpoints.specs.declared.uses.Row.{Row}
use Rattle.checkpoints.specs.Words.{words_in, words_of, has_word, word_end, place_in, rows_from}

-- tests of one range
has-it : (r : Span) (w : ℕ) → r.start / 4 ≤ w → w < word_end r → has_word r w ≡ true
has-it r w l h = grind (arith, nat_tests)

ends-before : (r : Span) (w : ℕ) → word_end r ≤ w → has_word r w ≡ false
ends-before r w h = grind (arith, nat_tests)

begins-after : (r : Span) (w : ℕ) → w < r.start / 4 → has_word r w ≡ false
begins-after r w h = grind (arith, nat_tests)

place-in-it : (r : Span) (rs : List Span) (w : ℕ) → has_word r w ≡ true → place_in (r ∷ rs) w ≡ w - r.start / 4
unfolding place_in
place-in-it r rs w h = ap (λ b. cond b (w - r.start / 4) (words_in r + place_in rs w)) h

place-after-it : (r : Span) (rs : List Span) (w : ℕ) → has_word r w ≡ false
    → place_in (r ∷ rs) w ≡ words_in r + place_in rs w
unfolding place_in
place-after-it r rs w h = ap (λ b. cond b (w - r.start / 4) (words_in r + place_in rs w)) h

-- a place is at most the length of the table
pub place-within : (rs : List Span) (w : ℕ) → place_in rs w ≤ words_of rs
unfolding place_in words_of
place-within [] w = omega arith
place-within (r ∷ rs) w = go (has_word r w) refl (place-within rs w)
  where
    go : (b : Bool) → has_word r w ≡ b → place_in rs w ≤ words_of rs
        → cond b (w - r.start / 4) (words_in r + place_in rs w) ≤ words_in r + words_of rs
    go true h l = grind (arith, nat_tests)
    go false h l = omega arith

-- ranges that begin after a word
pub none-above : (rs : List Span) (w : ℕ) → ((k : ℕ) (d : Span) → k < length rs → w < (get_or rs k d).start / 4)
    → place_in rs w ≡ words_of rs
unfolding words_of place_in
none-above [] w h = refl
none-above (r ∷ rs) w h =
    place-after-it r rs w (begins-after r w (h 0 r (omega arith)))
    ∙ ap (λ n. words_in r + n) (none-above rs w (λ k d l. h (suc k) d (omega arith)))

-- the rows of one range more
-- the greatest end of some ranges, or one from before
unfoldable pub furthest : ℕ → List Span → ℕ
furthest end [] = end
furthest end (r ∷ rs) = furthest (max end (word_end r)) rs

pub rows-more : (rs : List Span) (r : Span) (before end : ℕ) → rows_from before end (rs ++ r ∷ [])
    ≡ rows_from before end rs ++ record {
      first = r.start / 4;
      before = before + words_of rs;
      end = max (furthest end rs) (word_end r);
    } ∷ []
unfolding rows_from words_of furthest
rows-more [] r before end =
    ap (λ n. record { first = r.start / 4; before = n; end = max end (word_end r) } ∷ []) (omega arith)
rows-more (x ∷ rs) r before end =
    let this : Row = record { first = x.start / 4; before = before; end = max end (word_end x) } in
    let sum : before + words_in x + words_of rs ≡ before + (words_in x + words_of rs) = omega arith in
    ap (λ rows. this ∷ rows) (
    rows-more rs r (before + words_in x) (max end (word_end x))
    ∙ ap (λ n. rows_from (before + words_in x) (max end (word_end x)) rs
    ++ record { first = r.start / 4; before = n; end = max (furthest (max end (word_end x)) rs) (word_end r) } ∷ []) sum
    )

pub furthest-more : (rs : List Span) (r : Span) (end : ℕ)
    → furthest end (rs ++ r ∷ []) ≡ max (furthest end rs) (word_end r)
unfolding furthest
furthest-more [] r end = refl
furthest-more (x ∷ rs) r end = furthest-more rs r (max end (word_end x))

-- their ends rise
ends-above : (rs : List Span) (before end k : ℕ) (d : Row) → k < length (rows_from before end rs)
    → end ≤ (get_or (rows_from before end rs) k d).end
unfolding rows_from
ends-above [] before end k d l = absurd (omega arith)
ends-above (r ∷ rs) before end zero d l = omega arith
ends-above (r ∷ rs) before end (suc k) d l =
    let later = ends-above rs (before + words_in r) (max end (word_end r)) k d (omega arith) in omega arith

pub ends-rise : (rs : List Span) (before end : ℕ) → IsNonDecreasingBy (λ (row : Row). row.end) (rows_from before end rs)
unfolding rows_from
ends-rise [] before end i j d l h = absurd (omega arith)
ends-rise (r ∷ rs) before end zero zero d l h = omega arith
ends-rise (r ∷ rs) before end zero (suc j) d l h =
    ends-above rs (before + words_in r) (max end (word_end r)) j d (omega arith)
ends-rise (r ∷ rs) before end (suc i) zero d l h = absurd (omega arith)
ends-rise (r ∷ rs) before end (suc i) (suc j) d l h =
    ends-rise rs (before + words_in r) (max end (word_end r)) i j d (omega arith) (omega arith)

-- rows 0 to i end before a word, and row i after it: it has the word, or none has
pub found : (rs : List Span) (before end w i : ℕ) (d : Row) → end ≤ w
    → ((k : ℕ) → k < i → (get_or (rows_from before end rs) k d).end ≤ w) → i < length (rows_from before end rs)
    → w < (get_or (rows_from before end rs) i d).end → (get_or (rows_from before end rs) i d).first ≤ w
    → before + place_in rs w ≡ (get_or (rows_from before end rs) i d).before
    + (w - (get_or (rows_from before end rs) i d).first)
unfolding rows_from
found [] before end w i d e low within at first = absurd (omega arith)
found (r ∷ rs) before end w zero d e low within at first =
    ap (λ n. before + n) (place-in-it r rs w (has-it r w first (omega arith)))
found (r ∷ rs) before end w (suc i) d e low within at first =
    let here = low 0 (omega arith) in
    let later = found rs (before + words_in r) (max end (word_end r)) w i d here (λ k l. low (suc k) (omega arith))
    (omega arith) at first in
    let place = place-after-it r rs w (ends-before r w (omega arith)) in
    omega arith

pub found-placed : (rs : List Span) (before end w i : ℕ) (d : Row) → end ≤ w
    → ((k : ℕ) → k < i → (get_or (rows_from before end rs) k d).end ≤ w) → i < length (rows_from before end rs)
    → w < (get_or (rows_from before end rs) i d).end → (get_or (rows_from before end rs) i d).first ≤ w
    → place_in rs w < words_of rs
unfolding rows_from words_of
found-placed [] before end w i d e low within at first = absurd (omega arith)
found-placed (r ∷ rs) before end w zero d e low within at first =
    let place = place-in-it r rs w (has-it r w first (omega arith)) in omega arith
found-placed (r ∷ rs) before end w (suc i) d e low within at first =
    let here = low 0 (omega arith) in
    let later = found-placed rs (before + words_in r) (max end (word_end r)) w i d here
    (λ k l. low (suc k) (omega arith)) (omega arith) at first in
    let place = place-after-it r rs w (ends-before r w (omega arith)) in
    omega arith

pub missing : (rs : List Span) (before end w i : ℕ) (d : Row) → IsNonDecreasingBy (λ (r : Span). r.start) rs
    → ((k : ℕ) → k < i → (get_or (rows_from before end rs) k d).end ≤ w) → i ≤ length (rows_from before end rs)
    → (i < length (rows_from before end rs) → w < (get_or (rows_from before end rs) i d).first)
    → place_in rs w ≡ words_of rs
unfolding rows_from words_of place_in
missing [] before end w i d sorted low within at = refl
missing (r ∷ rs) before end w zero d sorted low within at =
    let here : w < r.start / 4 = at (omega arith) in
    none-above (r ∷ rs) w (λ k e l. let up = sorted 0 k e (omega arith) l in omega arith)
missing (r ∷ rs) before end w (suc i) d sorted low within at =
    let here = low 0 (omega arith) in
    place-after-it r rs w (ends-before r w (omega arith))
    ∙ ap (λ n. words_in r + n)
    (missing rs (before + words_in r) (max end (word_end r)) w i d
    (λ j k e l h. sorted (suc j) (suc k) e (omega arith) (omega arith))
    (λ k l. low (suc k) (omega arith)) (omega arith) (λ l. at (omega arith)))
