-- Places of words in a table, and the words that a range meets.
use Rattle.std.proofs.Common.{◌≡◌, ℕ, zero, suc, ◌+◌, ◌-◌, ◌*◌, ◌/◌, ◌%◌, ◌^◌, ◌<◌, ◌≤◌, ◌||◌, nat_lt, Bool, true}
use Rattle.std.proofs.Common.{false, cond, List, [], ◌∷◌, refl, ap, sym, add-zero}
use Rattle.std.proofs.Common.{◌++◌, ◌⊎◌, ◌∙◌, inl, inr, arith, min, length, get_or}
use Rattle.std.specs.Prelude.{replicate}
use Rattle.std.proofs.Math.ListN.{set}
use Rattle.std.proofs.lemmas.Bool.{cases_eq, cases_lt, false≢true, true≢false}
use Rattle.std.proofs.lemmas.Bool.Decides.{nat_tests}
use Rattle.std.proofs.lemmas.List.{get_or-set_other, get_or-set_same}
use Rattle.shadow_memory.specs.Ranges.{is_in, offset}
use Rattle.guest_machine.specs.Spans.{covers}
use Rattle.instructions.specs.Codes.{len_of}
use Rattle.instructions.specs.declared.code.Code.{Code}
use Rattle.instructions.specs.declared.code.Code.TheVariants.{Half, Word}
use Rattle.run_values.specs.declared.span.Span.{Span}
use Rattle.guest_machine.specs.declared.setup.Touched.{Touched}
use Rattle.guest_machine.specs.Exec.{has_touched}
use Rattle.checkpoints.specs.Words.{AreWords, meets, has_address, is_among, is_from, IsWordIn, words_in, words_of}
use Rattle.checkpoints.specs.FirstUses.{uses_code, uses_word, UsesByWords}
use Rattle.checkpoints.specs.Words.{has_word}
use Rattle.checkpoints.specs.Words.{place_in, word_with, meets_code, IsCodeIn, IsCodeLen, IsPlaced, AreEntered, never}

-- words in and out of a range
inside : (r : Span) (w : ℕ) → has_word r w ≡ true → (r.start / 4 ≤ w) × (w < r.start / 4 + words_in r)
inside r w h = (grind (arith, nat_tests), grind (arith, nat_tests))

-- two words at one place are one
pub place-apart : (rs : List Span) (v w : ℕ) → place_in rs v ≡ place_in rs w → IsPlaced rs w → v ≡ w
unfolding place_in words_of
place-apart [] v w e h = absurd (omega arith)
place-apart (r ∷ rs) v w e h = go (place-apart rs v w) (has_word r v) (has_word r w) refl refl e h
  where
    go : (place_in rs v ≡ place_in rs w → IsPlaced rs w → v ≡ w) → (a b : Bool) → has_word r v ≡ a → has_word r w ≡ b
        → cond a (v - r.start / 4) (words_in r + place_in rs v) ≡ cond b (w - r.start / 4) (words_in r + place_in rs w)
        → cond b (w - r.start / 4) (words_in r + place_in rs w) < words_in r + words_of rs → v ≡ w
    go rest true true p q k l = let x = inside r v p in let y = inside r w q in omega arith
    go rest true false p q k l = let x = inside r v p in absurd (omega arith)
    go rest false true p q k l = let y = inside r w q in absurd (omega arith)
    go rest false false p q k l = rest (omega arith) (omega arith)

-- a word with a byte in the ranges has a place
has-word : (r : Span) (a w : ℕ) → has_address r a ≡ true → a / 4 ≡ w → has_word r w ≡ true
has-word r a w h e = grind (arith, nat_tests)

place-of-address : (rs : List Span) (a w : ℕ) → is_among rs a ≡ true → a / 4 ≡ w → IsPlaced rs w
unfolding place_in words_of
place-of-address [] a w h e = absurd (false≢true h)
place-of-address (r ∷ rs) a w h e = go (λ m. place-of-address rs a w m e) (has_address r a) (has_word r w) refl refl h
  where
    go : (is_among rs a ≡ true → IsPlaced rs w) → (p q : Bool) → has_address r a ≡ p → has_word r w ≡ q
        → (p || is_among rs a) ≡ true
        → cond q (w - r.start / 4) (words_in r + place_in rs w) < words_in r + words_of rs
    go rest p true k l m = let x = inside r w l in omega arith
    go rest true false k l m = absurd (false≢true (sym l ∙ has-word r a w k e))
    go rest false false k l m = let x = rest m in omega arith

met-somewhere : (p : ℕ → Bool) (a : ℕ) → meets p a ≡ true → (j : ℕ) × (j < 4) × (p (a + j) ≡ true)
met-somewhere p a h = go (p a) (p (a + 1)) (p (a + 2)) (p (a + 3)) refl refl refl refl h
  where
    go : (b c d e : Bool) → p a ≡ b → p (a + 1) ≡ c → p (a + 2) ≡ d → p (a + 3) ≡ e → (b || (c || (d || e))) ≡ true
        → (j : ℕ) × (j < 4) × (p (a + j) ≡ true)
    go true c d e x y z w h = (0, omega arith, ap p (add-zero a) ∙ x)
    go false true d e x y z w h = (1, omega arith, y)
    go false false true e x y z w h = (2, omega arith, z)
    go false false false true x y z w h = (3, omega arith, w)
    go false false false false x y z w h = absurd (false≢true h)

pub placed-word : (rs : List Span) (addr : ℕ) → IsWordIn rs addr → IsPlaced rs (addr / 4)
placed-word rs addr h =
    let at = met-somewhere (is_among rs) addr h.met in
    let aligned = h.aligned in
    let few = at.1 in
    place-of-address rs (addr + at.0) (addr / 4) at.2 (omega arith)

-- an entry, after a step was entered for a word that has a place
pub entered-there : (rs : List Span) (ss : List ℕ) (v w step first : ℕ) (d : ℕ) → length ss ≡ words_of rs
    → IsPlaced rs w → place_in rs v < length ss → first ≡ min (get_or ss (place_in rs v) d) step
    → get_or (set ss (place_in rs v) first) (place_in rs w) d
    ≡ cond (is_from v 1 w) (min (get_or ss (place_in rs w) d) step) (get_or ss (place_in rs w) d)
entered-there rs ss v w step first d size h l e = elim (cases_eq w v) [
  | inl same ↦ (
      let here : place_in rs w ≡ place_in rs v = ap (place_in rs) same in
      ap (λ k. get_or (set ss (place_in rs v) first) k d) here ∙ get_or-set_same ss (place_in rs v) first d l ∙ e
      ∙ ap (λ k. min (get_or ss k d) step) (sym here)
      ∙ sym (ap (λ b. cond b (min (get_or ss (place_in rs w) d) step) (get_or ss (place_in rs w) d)) (is-one same))
      )
  | inr other ↦ (
      get_or-set_other ss (place_in rs v) (place_in rs w) first d (λ k. other (sym (place-apart rs v w (sym k) h)))
      ∙ sym (ap (λ b. cond b (min (get_or ss (place_in rs w) d) step) (get_or ss (place_in rs w) d)) (is-other other))
      )
]
  where
    is-one : w ≡ v → is_from v 1 w ≡ true
    is-one h = grind (arith, nat_tests)

    is-other : (w ≡ v → ⊥) → is_from v 1 w ≡ false
    is-other h = grind (arith, nat_tests)

-- how far a word lies above another, where the one after the last is the first
distance : ℕ → ℕ → ℕ
distance first w = (w + 2 ^ 30 - first) % 2 ^ 30

-- is a word among the n from one on?
pub word_in : ℕ → ℕ → ℕ → Bool
unfolding distance
word_in first n w = nat_lt (distance first w) n

pub no-word : (first w x y : ℕ) → x ≡ cond (word_in first 0 w) y x
unfolding word_in distance
no-word first w x y = grind (arith, nat_tests)

-- the words from the one that lies i above the first
reaches : (first i n word w : ℕ) → first < 2 ^ 30 → w < 2 ^ 30 → word ≡ (first + i) % 2 ^ 30 → word + n ≤ 2 ^ 30
    → is_from word n w ≡ true → word_in first (i + n) w ≡ true
unfolding word_in distance
reaches first i n word w a b e c h = grind (arith, nat_tests)

passes : (first i n word w : ℕ) → first < 2 ^ 30 → w < 2 ^ 30 → word ≡ (first + i) % 2 ^ 30 → word + n ≤ 2 ^ 30
    → is_from word n w ≡ false → word_in first (i + n) w ≡ word_in first i w
unfolding word_in distance
passes first i n word w a b e c h = grind (arith, nat_tests)

-- some more words of a range are entered
pub next-words : (first i n word w x now new step : ℕ) → first < 2 ^ 30 → w < 2 ^ 30 → word ≡ (first + i) % 2 ^ 30
    → word + n ≤ 2 ^ 30
    → now ≡ cond (word_in first i w) (min x step) x → new ≡ cond (is_from word n w) (min now step) now
    → new ≡ cond (word_in first (i + n) w) (min x step) x
next-words first i n word w x now new step a b is c e f = go (is_from word n w) refl f
  where
    twice : (t : Bool) → now ≡ cond t (min x step) x → min now step ≡ min x step
    twice true k = omega arith
    twice false k = omega arith

    go : (t : Bool) → is_from word n w ≡ t → new ≡ cond t (min now step) now
        → new ≡ cond (word_in first (i + n) w) (min x step) x
    go true h k =
        k ∙ twice (word_in first i w) e ∙ sym (ap (λ t. cond t (min x step) x) (reaches first i n word w a b is c h))
    go false h k = k ∙ e ∙ sym (ap (λ t. cond t (min x step) x) (passes first i n word w a b is c h))

-- tests of several
or-first : (a b : Bool) → a ≡ true → (a || b) ≡ true
or-first true b h = refl
or-first false b h = cc

or-later : (a b : Bool) → b ≡ true → (a || b) ≡ true
or-later true b h = refl
or-later false b h = h

or-none : (a b : Bool) → a ≡ false → b ≡ false → (a || b) ≡ false
or-none true b h k = h
or-none false b h k = k

pub or-left : (a b : Bool) → (a || b) ≡ false → a ≡ false
or-left true b h = h
or-left false b h = refl

pub or-right : (a b : Bool) → (a || b) ≡ false → b ≡ false
or-right true b h = absurd (true≢false h)
or-right false b h = h

is-false : (b : Bool) → (b ≡ true → ⊥) → b ≡ false
is-false true h = absurd (h refl)
is-false false h = refl

or-swap : (a b c d : Bool) → ((a || b) || (c || d)) ≡ ((a || c) || (b || d))
or-swap true b c d = refl
or-swap false true true d = refl
or-swap false true false d = refl
or-swap false false c d = refl

-- a word is met at one of its four addresses, or at none
meets-at : (j : ℕ) (p : ℕ → Bool) (a : ℕ) → j < 4 → p (a + j) ≡ true → meets p a ≡ true
meets-at zero p a l h = or-first (p a) _ (ap p (sym (add-zero a)) ∙ h)
meets-at (suc zero) p a l h = or-later (p a) _ (or-first (p (a + 1)) _ h)
meets-at (suc (suc zero)) p a l h = or-later (p a) _ (or-later (p (a + 1)) _ (or-first (p (a + 2)) _ h))
meets-at (suc (suc (suc zero))) p a l h = or-later (p a) _ (or-later (p (a + 1)) _ (or-later (p (a + 2)) _ h))
meets-at (suc (suc (suc (suc n)))) p a l h = absurd (omega arith)

pub meets-nowhere : (p : ℕ → Bool) (a : ℕ) → ((j : ℕ) → j < 4 → p (a + j) ≡ false) → meets p a ≡ false
meets-nowhere p a h =
    or-none (p a) _ (ap p (sym (add-zero a)) ∙ h 0 (omega arith))
    (or-none (p (a + 1)) _ (h 1 (omega arith)) (or-none (p (a + 2)) _ (h 2 (omega arith)) (h 3 (omega arith))))

pub unmet : (p : ℕ → Bool) (addr a : ℕ) → meets p addr ≡ false → addr % 4 ≡ 0 → a / 4 ≡ addr / 4 → p a ≡ false
unmet p addr a h m e = go (p a) refl
  where
    go : (b : Bool) → p a ≡ b → b ≡ false
    go false k = refl
    go true k = absurd (false≢true (sym h ∙ meets-at (a - addr) p addr (omega arith) (ap p (back (omega arith)) ∙ k)))
      where
        back : addr ≤ a → addr + (a - addr) ≡ a
        back l = omega arith

-- the word with a byte of the ranges is one of theirs
pub word-of-byte : (rs : List Span) (a : ℕ) → a < 2 ^ 32 → is_among rs a ≡ true → IsWordIn rs (word_with a)
word-of-byte rs a small h = record {
  aligned = omega arith;
  small = omega arith;
  met = meets-at (a % 4) (is_among rs) (word_with a) (omega arith) (ap (is_among rs) at ∙ h);
}
  where
    at : word_with a + a % 4 ≡ a
    at = omega arith

pub quarter : (a : ℕ) → word_with a / 4 ≡ a / 4
quarter a = omega arith

-- the lengths of codes
pub len-is : (code : Code) → IsCodeLen (len_of code)
len-is (Word word) = inr refl
len-is (Half half) = inl refl

pub len-some : (len : ℕ) → IsCodeLen len → 0 < len
len-some len (inl two) = omega arith
len-some len (inr four) = omega arith

pub len-few : (len : ℕ) → IsCodeLen len → len ≤ 4
len-few len (inl two) = omega arith
len-few len (inr four) = omega arith

-- both words of a code are words of the ranges
pub first-word : (rs : List Span) (addr len : ℕ) → IsCodeIn rs addr len → IsWordIn rs (word_with addr)
first-word rs addr len h =
    let some = len-some len h.sized in
    let whole = h.whole in
    word-of-byte rs addr (omega arith) (ap (is_among rs) (sym (add-zero addr)) ∙ h.loaded 0 some)

pub last-word : (rs : List Span) (addr len : ℕ) → IsCodeIn rs addr len → IsWordIn rs (word_with (addr + len - 1))
last-word rs addr len h =
    let some = len-some len h.sized in
    let whole = h.whole in
    let at : addr + (len - 1) ≡ addr + len - 1 = omega arith in
    word-of-byte rs (addr + len - 1) (omega arith) (ap (is_among rs) (sym at) ∙ h.loaded (len - 1) (omega arith))

-- each byte of a code is one of these two words
in-range : (addr len a : ℕ) → addr + len ≤ 2 ^ 32 → is_in addr len a ≡ true → (addr ≤ a) × (a < addr + len)
in-range addr len a whole h = (grind (arith, nat_tests), grind (arith, nat_tests))

pub in-words : (addr len a : ℕ) → 0 < len → len ≤ 4 → addr + len ≤ 2 ^ 32 → is_in addr len a ≡ true
    → (a / 4 ≡ addr / 4) ⊎ (a / 4 ≡ (addr + len - 1) / 4)
in-words addr len a some few whole h =
    let at = in-range addr len a whole h in
    let from = at.0 in
    let to = at.1 in
    elim (cases_eq (a / 4) (addr / 4)) [
      | inl first ↦ inl first
      | inr other ↦ inr (next a addr len few from to other)
    ]
  where
    next : (a addr len : ℕ) → len ≤ 4 → addr ≤ a → a < addr + len → (a / 4 ≡ addr / 4 → ⊥)
        → a / 4 ≡ (addr + len - 1) / 4
    next a addr len few from to other = omega arith

-- a step that touches neither touches no byte of the code
pub untouched : (p : ℕ → Bool) (addr : ℕ) (code : Code) (a : ℕ) → addr + len_of code ≤ 2 ^ 32
    → meets p (word_with addr) ≡ false → meets p (word_with (addr + len_of code - 1)) ≡ false
    → is_in addr (len_of code) a ≡ true → p a ≡ false
untouched p addr code a whole first last h =
    elim (in-words addr (len_of code) a (len-some (len_of code) (len-is code)) (len-few (len_of code) (len-is code))
    whole h) [
      | inl e ↦ unmet p (word_with addr) a first (omega arith) (e ∙ sym (quarter addr))
      | inr e ↦ unmet p (word_with (addr + len_of code - 1)) a last (omega arith)
          (e ∙ sym (quarter (addr + len_of code - 1)))
    ]

-- and a set without a byte of a code has none
pub unmet-code : (p : ℕ → Bool) (addr : ℕ) (code : Code) (a : ℕ) → addr + len_of code ≤ 2 ^ 32
    → meets_code p addr (len_of code) ≡ false → is_in addr (len_of code) a ≡ true → p a ≡ false
unmet-code p addr (Word word) a whole none h =
    let at = in-range addr 4 a whole h in go (a - addr) (omega arith) (omega arith)
  where
    go : (j : ℕ) → j < 4 → addr + j ≡ a → p a ≡ false
    go j few e = is-false (p a) (λ met. false≢true (sym none ∙ meets-at j p addr few (ap p e ∙ met)))
unmet-code p addr (Half half) a whole none h =
    let at = in-range addr 2 a whole h in go (a - addr) (omega arith) (omega arith)
  where
    go : (j : ℕ) → j < 2 → addr + j ≡ a → p a ≡ false
    go zero few e = ap p (sym e ∙ add-zero addr) ∙ or-left (p addr) (p (addr + 1)) none
    go (suc zero) few e = ap p (sym e) ∙ or-right (p addr) (p (addr + 1)) none
    go (suc (suc j)) few e = absurd (omega arith)

pub meets-or : (p q : ℕ → Bool) (a : ℕ) → meets (λ x. p x || q x) a ≡ (meets p a || meets q a)
meets-or p q a =
    ap (λ b. (p a || q a) || b) (ap (λ b. (p (a + 1) || q (a + 1)) || b)
    (or-swap (p (a + 2)) (q (a + 2)) (p (a + 3)) (q (a + 3)))
    ∙ or-swap (p (a + 1)) (q (a + 1)) (p (a + 2) || p (a + 3)) (q (a + 2) || q (a + 3)))
    ∙ or-swap (p a) (q a) (p (a + 1) || (p (a + 2) || p (a + 3))) (q (a + 1) || (q (a + 2) || q (a + 3)))

pub meets-touched : (t : Touched) (a : ℕ)
    → meets (has_touched t) a ≡ (meets (covers t.fetch) a || (meets (covers t.reads) a || meets (covers t.writes) a))
meets-touched t a =
    meets-or (covers t.fetch) (λ x. covers t.reads x || covers t.writes x) a
    ∙ ap (λ b. meets (covers t.fetch) a || b) (meets-or (covers t.reads) (covers t.writes) a)

-- the words that a range meets are those from its first on
offset-first : (start w : ℕ) → start < 2 ^ 32 → w < 2 ^ 30 → distance (start / 4) w ≡ 0
    → offset start (4 * w + start % 4) ≡ 0
unfolding distance
offset-first start w a b e = grind (arith, nat_tests)

offset-word : (start w j : ℕ) → start < 2 ^ 32 → w < 2 ^ 30 → j < 4 → 0 < distance (start / 4) w
    → offset start (4 * w + j) + start % 4 ≡ 4 * distance (start / 4) w + j
unfolding distance
offset-word start w j a b l e = grind (arith, nat_tests)

is-in : (start n a : ℕ) → offset start a < n → a < 2 ^ 32 → is_in start n a ≡ true
is-in start n a l m = grind (arith, nat_tests)

not-in : (start n a : ℕ) → n ≤ offset start a → is_in start n a ≡ false
not-in start n a l = grind (arith, nat_tests)

pub span-words : (span : Span) (w words : ℕ) → span.start < 2 ^ 32 → 0 < span.len → w < 2 ^ 30 → words ≡ words_in span
    → meets (is_in span.start span.len) (4 * w) ≡ word_in (span.start / 4) words w
unfolding word_in
span-words span w words small some few size = elim (cases_lt d words) [
  | inl near ↦ (met (cases_lt 0 d) near ∙ sym (near-is near))
  | inr far ↦
      (meets-nowhere (is_in span.start span.len) (4 * w)
      (λ j l. not-in span.start span.len (4 * w + j) (let o = offset-word span.start w j small few l (omega arith) in
      omega arith))
      ∙ sym (far-is far))
]
  where
    d : ℕ
    d = distance (span.start / 4) w

    near-is : d < words → nat_lt d words ≡ true
    near-is l = grind (arith, nat_tests)

    far-is : words ≤ d → nat_lt d words ≡ false
    far-is l = grind (arith, nat_tests)

    met : ((0 < d) ⊎ (d ≤ 0)) → d < words → meets (is_in span.start span.len) (4 * w) ≡ true
    met (inl later) near =
        meets-at 0 (is_in span.start span.len) (4 * w) (omega arith)
        (let o = offset-word span.start w 0 small few (omega arith) later in
        is-in span.start span.len (4 * w + 0) (omega arith) (omega arith))
    met (inr first) near =
        meets-at (span.start % 4) (is_in span.start span.len) (4 * w) (omega arith)
        (let o = offset-first span.start w small few (omega arith) in
        is-in span.start span.len (4 * w + span.start % 4) (omega arith) (omega arith))

-- no word is among those of which none is remembered
pub none-in : (n k : ℕ) → get_or (replicate n never) k never ≡ never
none-in zero k = refl
none-in (suc n) zero = refl
none-in (suc n) (suc k) = none-in n k

pub none-remembered : (ranges : List Span) (steps : List ℕ) (n : ℕ) → AreEntered ranges steps (replicate n never)
none-remembered ranges steps n k few = let none = none-in n k in absurd (omega arith)

pub no-words : (n : ℕ) → AreWords (replicate n never)
no-words n k other = absurd (other (none-in n k))

-- a range inside of a word meets that one
pub meets-one : (span : Span) (w : ℕ) → span.start < 2 ^ 32 → w < 2 ^ 30 → 0 < span.len
    → span.len ≤ 4 - span.start % 4
    → meets (is_in span.start span.len) (4 * w) ≡ is_from (span.start / 4) 1 w
unfolding word_in distance
meets-one span w small few some short = span-words span w 1 small some few (omega (arith, some, short)) ∙ alone
  where
    alone : word_in (span.start / 4) 1 w ≡ is_from (span.start / 4) 1 w
    alone = grind (arith, nat_tests)

-- a range inside of a word meets no other one
pub meets-no-other : (span : Span) (w : ℕ) → span.start < 2 ^ 32 → w < 2 ^ 30 → span.len ≤ 4 - span.start % 4
    → (w ≡ span.start / 4 → ⊥) → meets (is_in span.start span.len) (4 * w) ≡ false
unfolding word_in distance
meets-no-other span w small few short other = elim (cases_lt 0 span.len) [
  | inl some ↦ span-words span w 1 small some few (omega (arith, some, short)) ∙ apart
  | inr none ↦
      meets-nowhere (is_in span.start span.len) (4 * w)
      (λ j l. not-in span.start span.len (4 * w + j) (omega (arith, none)))
]
  where
    apart : word_in (span.start / 4) 1 w ≡ false
    apart = grind (arith, nat_tests)

-- three ranges, one after another
pub after-three : (f r w : Bool) (x k one two three : ℕ) → one ≡ cond f (min x k) x → two ≡ cond r (min one k) one
    → three ≡ cond w (min two k) two → three ≡ cond (f || (r || w)) (min x k) x
after-three true true true x k one two three a b c = omega arith
after-three true true false x k one two three a b c = omega arith
after-three true false true x k one two three a b c = omega arith
after-three true false false x k one two three a b c = omega arith
after-three false true true x k one two three a b c = omega arith
after-three false true false x k one two three a b c = omega arith
after-three false false true x k one two three a b c = omega arith
after-three false false false x k one two three a b c = omega arith

pub words-none : words_of [] ≡ 0
unfolding words_of
words-none = refl

pub words-more : (rs : List Span) (r : Span) → words_of (rs ++ r ∷ []) ≡ words_of rs + words_in r
unfolding words_of
words-more [] r = omega arith
words-more (x ∷ rs) r = omega (arith, words-more rs r)

-- a word at a multiple of 4 has its bytes in one word
either-is : (b : Bool) → (b || b) ≡ b
either-is true = refl
either-is false = refl

pub uses-by-words : UsesByWords
unfolding uses_code
uses-by-words start setup marks addr k aligned =
    let first : word_with addr ≡ addr = omega arith in
    let last : word_with (addr + 4 - 1) ≡ addr = omega arith in
    ap (λ a. uses_word start setup marks a k || uses_word start setup marks (word_with (addr + 4 - 1)) k) first
    ∙ ap (λ a. uses_word start setup marks addr k || uses_word start setup marks a k) last
    ∙ either-is (uses_word start setup marks addr k)
