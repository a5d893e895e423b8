-- Numbers at the end of a text: where a text ends with a space and a number, both can be read off.
use Rattle.std.proofs.Common.{◌≡◌, ℕ, zero, suc, ◌+◌, ◌/◌, ◌%◌, ◌==◌, ◌≤◌, Bool, true, false, cond, refl, sym, ap, ◌∙◌}
use Rattle.std.proofs.Common.{arith, subst, List, [], ◌∷◌, ◌++◌, length, nat_lt}
use Rattle.std.specs.Fmt.{decimal, digits, digits_onto, digit_glyph}
use Rattle.std.proofs.lemmas.Bool.Decides.{nat_tests}
use Rattle.std.proofs.lemmas.List.{append_assoc}

-- no number of a list is the space's
abbrev pub HasNoSpace : List ℕ → Type 0
HasNoSpace [] = Unit {0}
HasNoSpace (x ∷ xs) = (x ≡ 32 → ⊥) × HasNoSpace xs

none-inside : (ys es : List ℕ) → HasNoSpace (ys ++ 32 ∷ es) → ⊥
none-inside [] es free = free.0 refl
none-inside (y ∷ ys) es free = none-inside ys es free.1

-- what is before the last space of a text, and what is after it
pub last-space : (xs ys ds es : List ℕ) → HasNoSpace ds → HasNoSpace es → xs ++ 32 ∷ ds ≡ ys ++ 32 ∷ es
    → (xs ≡ ys) × (ds ≡ es)
last-space [] [] ds es free clear e = (refl, cc)
last-space [] (y ∷ ys) ds es free clear e =
    let same : ds ≡ ys ++ 32 ∷ es = cc in
    absurd (none-inside ys es (subst HasNoSpace same free))
last-space (x ∷ xs) [] ds es free clear e =
    let same : es ≡ xs ++ 32 ∷ ds = cc in
    absurd (none-inside xs ds (subst HasNoSpace same clear))
last-space (x ∷ xs) (y ∷ ys) ds es free clear e =
    let first : x ≡ y = cc in
    let tails : xs ++ 32 ∷ ds ≡ ys ++ 32 ∷ es = cc in
    let rest = last-space xs ys ds es free clear tails in
    let front : xs ≡ ys = rest.0 in
    (cc, rest.1)

-- the digits of a number --

glyph : (d : ℕ) → digit_glyph false d ≡ 32 → ⊥
glyph d = go (nat_lt d 10)
  where
    go : (b : Bool) → cond b (48 + d) (87 + d) ≡ 32 → ⊥
    go true e = omega (arith, e)
    go false e = omega (arith, e)

spaceless : (k n : ℕ) (acc : List ℕ) → HasNoSpace acc → HasNoSpace (digits_onto k 10 false n acc)
spaceless zero n acc free = free
spaceless (suc k) n acc free = go (spaceless k) (n / 10 == 0)
  where
    go : ((m : ℕ) (xs : List ℕ) → HasNoSpace xs → HasNoSpace (digits_onto k 10 false m xs)) → (b : Bool)
        → HasNoSpace (cond b (digit_glyph false (n % 10) ∷ acc)
        (digits_onto k 10 false (n / 10) (digit_glyph false (n % 10) ∷ acc)))
    go rest true = (glyph (n % 10), free)
    go rest false = rest (n / 10) (digit_glyph false (n % 10) ∷ acc) (glyph (n % 10), free)

at-least : (k n : ℕ) (acc : List ℕ) → length acc ≤ length (digits_onto k 10 false n acc)
at-least zero n acc = omega arith
at-least (suc k) n acc = go (at-least k) (n / 10 == 0)
  where
    go : ((m : ℕ) (xs : List ℕ) → length xs ≤ length (digits_onto k 10 false m xs)) → (b : Bool)
        → length acc ≤ length (cond b (digit_glyph false (n % 10) ∷ acc)
        (digits_onto k 10 false (n / 10) (digit_glyph false (n % 10) ∷ acc)))
    go rest true = omega arith
    go rest false = omega (arith, rest (n / 10) (digit_glyph false (n % 10) ∷ acc))

-- a number has a digit, whatever is after it
longer : (k n : ℕ) (acc : List ℕ) → suc (length acc) ≤ length (digits_onto (suc k) 10 false n acc)
longer k n acc = go (n / 10 == 0)
  where
    go : (b : Bool) → suc (length acc) ≤ length (cond b (digit_glyph false (n % 10) ∷ acc)
        (digits_onto k 10 false (n / 10) (digit_glyph false (n % 10) ∷ acc)))
    go true = omega arith
    go false = at-least k (n / 10) (digit_glyph false (n % 10) ∷ acc)

zero-glyph : (d : ℕ) → digit_glyph false d ≡ 48 → d ≡ 0
zero-glyph d = go (nat_lt d 10)
  where
    go : (b : Bool) → cond b (48 + d) (87 + d) ≡ 48 → d ≡ 0
    go true e = omega (arith, e)
    go false e = omega (arith, e)

only-zero : (k n : ℕ) → digits_onto (suc (suc k)) 10 false n [] ≡ 48 ∷ [] → n ≡ 0
only-zero k n = go (n / 10 == 0) refl
  where
    go : (b : Bool) → (n / 10 == 0) ≡ b → cond b (digit_glyph false (n % 10) ∷ [])
        (digits_onto (suc k) 10 false (n / 10) (digit_glyph false (n % 10) ∷ [])) ≡ 48 ∷ [] → n ≡ 0
    go true is e =
        let digit : digit_glyph false (n % 10) ≡ 48 = cc in
        let low = zero-glyph (n % 10) digit in
        grind (arith, nat_tests)
    go false is e =
        let long = longer k (n / 10) (digit_glyph false (n % 10) ∷ []) in
        let short = ap length e in
        absurd (omega (arith, long, short))

pub decimal-spaceless : (n : ℕ) → HasNoSpace (decimal n)
unfolding digits
decimal-spaceless n = spaceless 64 n [] tt

pub decimal-zero : (n : ℕ) → decimal n ≡ decimal 0 → n ≡ 0
unfolding digits
decimal-zero n e = only-zero 62 n e

-- a text that ends with a word, a space and 0, as another does: the number is 0, and what is before is the same
pub peeled : (xs ys word : List ℕ) (n : ℕ)
    → xs ++ (word ++ 32 ∷ []) ++ decimal n ≡ ys ++ (word ++ 32 ∷ []) ++ decimal 0 → (xs ++ word ≡ ys ++ word) × (n ≡ 0)
peeled xs ys word n e =
    let both = last-space (xs ++ word) (ys ++ word) (decimal n) (decimal 0) (decimal-spaceless n) (decimal-spaceless 0)
    (sym (spaced xs word (decimal n)) ∙ e ∙ spaced ys word (decimal 0)) in
    (both.0, decimal-zero n both.1)
  where
    spaced : (xs word ds : List ℕ) → xs ++ (word ++ 32 ∷ []) ++ ds ≡ (xs ++ word) ++ 32 ∷ ds
    spaced xs word ds =
        ap (λ front. front ++ ds) (sym (append_assoc xs word (32 ∷ []))) ∙ append_assoc (xs ++ word) (32 ∷ []) ds
