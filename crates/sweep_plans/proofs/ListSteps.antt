-- Lists that grow by one.
use Rattle.std.proofs.Common.{◌≡◌, ℕ, zero, suc, ◌+◌, ◌*◌, ◌^◌, ◌==◌, ◌&&◌, ◌||◌, ◌<◌, Bool, true, false, not, cond}
use Rattle.std.proofs.Common.{if◌then◌else◌, List, [], ◌∷◌, ◌++◌, filter, map, bit_xor, refl, ap, ◌∙◌}
use Rattle.std.proofs.Common.{subst, inl, inr, arith}
use Rattle.std.proofs.lemmas.Bool.{cases_lt}
use Rattle.guest_elf.specs.declared.image.Image.{Image}
use Rattle.guest_elf.specs.Images.{is_word}
use Rattle.sweep_plans.specs.Numbers.{below}
use Rattle.sweep_plans.specs.Plans.{any_word, byte_values, flips_below, is_wanted, word_values}
use Rattle.sweep_plans.specs.declared.plan.ByteValues.{ByteValues}

filter-more : {A : Type 0} (p : A → Bool) (xs : List A) (x : A)
    → filter p (xs ++ x ∷ []) ≡ filter p xs ++ (if p x then x ∷ [] else [])
filter-more p [] x = go (p x)
  where
    go : (b : Bool) → cond b (x ∷ []) [] ≡ cond b (x ∷ []) []
    go b = refl
filter-more p (y ∷ ys) x = go (p y) (filter-more p ys x)
  where
    go : (b : Bool) → filter p (ys ++ x ∷ []) ≡ filter p ys ++ (if p x then x ∷ [] else [])
        → cond b (y ∷ filter p (ys ++ x ∷ [])) (filter p (ys ++ x ∷ [])) ≡ cond b (y ∷ filter p ys) (filter p ys)
        ++ (if p x then x ∷ [] else [])
    go true rest = ap (λ zs. y ∷ zs) rest
    go false rest = rest

pub map-more : {A B : Type 0} (f : A → B) (xs : List A) (x : A) → map f (xs ++ x ∷ []) ≡ map f xs ++ f x ∷ []
map-more f [] x = refl
map-more f (y ∷ ys) x = ap (λ zs. f y ∷ zs) (map-more f ys x)

pub plus-one : (n : ℕ) → n + 1 ≡ suc n
plus-one n = omega arith

-- another value
pub byte-more : (values : ByteValues) (old n : ℕ)
    → byte_values values old (n + 1) ≡ byte_values values old n
    ++ (if not (n == old) && is_wanted values old n then n ∷ [] else [])
unfolding byte_values below
byte-more values old n =
    ap (byte_values values old) (plus-one n)
    ∙ filter-more (λ new. not (new == old) && is_wanted values old new) (below n) n

pub word-more : (old : ℕ) (words : List ℕ) (word : ℕ)
    → word_values old (words ++ word ∷ []) ≡ word_values old words ++ (if not (word == old) then word ∷ [] else [])
unfolding word_values
word-more old words word = filter-more (λ new. not (new == old)) words word

pub flip-more : (old n : ℕ) → flips_below old (n + 1) ≡ flips_below old n ++ bit_xor old (2 ^ n) ∷ []
unfolding flips_below below
flip-more old n = ap (flips_below old) (plus-one n) ∙ map-more (λ bit. bit_xor old (2 ^ bit)) (below n) n

-- a word that is there
pub some-word : (image : Image) (first i n : ℕ) → i < n → is_word image (4 * (first + i)) ≡ true
    → any_word image first n ≡ true
unfolding any_word
some-word image first i zero l h = absurd (omega arith)
some-word image first i (suc n) l h = elim (cases_lt i n) [
  | inl before ↦ rest (is_word image (4 * (first + n))) (some-word image first i n before h)
  | inr last ↦ (let same : i ≡ n = omega arith in here (subst (λ k. is_word image (4 * (first + k)) ≡ true) same h))
]
  where
    rest : (b : Bool) → any_word image first n ≡ true → (b || any_word image first n) ≡ true
    rest true h = refl
    rest false h = h

    here : is_word image (4 * (first + n)) ≡ true → (is_word image (4 * (first + n)) || any_word image first n) ≡ true
    here h = rw h refl

-- and where there is none
pub no-word : (image : Image) (first : ℕ) → any_word image first 0 ≡ false
unfolding any_word
no-word image first = refl

pub no-more-words : (image : Image) (first n : ℕ) → is_word image (4 * (first + n)) ≡ false
    → any_word image first n ≡ false → any_word image first (n + 1) ≡ false
unfolding any_word
no-more-words image first n here before = ap (any_word image first) (plus-one n) ∙ (λ i. here i || before i)
