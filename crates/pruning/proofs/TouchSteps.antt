-- What a list of touches tells once more is appended, and where a search finds the first one of a word.
use Rattle.std.proofs.Common.{◌≡◌, ◌⊎◌, inl, inr, ℕ, zero, suc, ◌+◌, ◌/◌, ◌%◌, ◌^◌, ◌<◌, ◌≤◌, ◌==◌, ◌||◌, Bool}
use Rattle.std.proofs.Common.{true, false}
use Rattle.std.proofs.Common.{List, [], ◌∷◌, ◌++◌, length, get_or, arith, refl, ap₂, ◌∙◌}
use Rattle.std.proofs.lemmas.Bool.Decides.{nat_tests}
use Rattle.std.proofs.lemmas.List.Folds.{list_any-append}
use Rattle.std.specs.List.{list_any}
use Rattle.std.specs.List.Sorted.{IsNonDecreasingBy}
use Rattle.shadow_memory.specs.Ranges.{is_in}
use Rattle.pruning.specs.Touches.{is_told, touch, TellsAll}

same-number : (m n : ℕ) → m ≡ n → (m == n) ≡ true
same-number m n e = grind (arith, nat_tests)

other-number : (m n : ℕ) → (m ≡ n → ⊥) → (m == n) ≡ false
other-number m n apart = grind (arith, nat_tests)

or-left : (a b : Bool) → a ≡ true → (a || b) ≡ true
or-left true b h = refl
or-left false b h = cc

or-right : (a b : Bool) → b ≡ true → (a || b) ≡ true
or-right true b h = refl
or-right false b h = h

-- one more is told
pub told-kept : (keys : List ℕ) (key : ℕ) → TellsAll keys (keys ++ key ∷ [])
told-kept keys key word step h = list_any-append _ keys (key ∷ []) ∙ or-left _ _ h

pub told-last : (keys : List ℕ) (word step : ℕ) → is_told (keys ++ touch word step ∷ []) word step ≡ true
told-last keys word step =
    list_any-append _ keys (touch word step ∷ [])
    ∙ or-right (is_told keys word step) _ (or-left _ false (same-number (touch word step) _ refl))

-- a byte of a range that ends at an address or after the last one is in one of its words
pub in-words : (start len a : ℕ) → start + len ≤ 2 ^ 32 → is_in start len a ≡ true
    → (start / 4 ≤ a / 4) × (a / 4 < (start + len + 3) / 4)
in-words start len a flat h =
    let in-order : (start ≤ a) × (a < start + len) = grind (arith, nat_tests) in
    (omega (arith, in-order.0), omega (arith, in-order.1))

-- a number that isn't there
pub none-there : (keys : List ℕ) (n : ℕ) → ((i : ℕ) → i < length keys → get_or keys i 0 ≡ n → ⊥)
    → list_any (λ key. key == n) keys ≡ false
none-there [] n none = refl
none-there (key ∷ keys) n none =
    ap₂ (λ a b. a || b) (other-number key n (none zero (omega arith)))
    (none-there keys n (λ i within same. none (suc i) (omega arith) same))

-- numbers of one word lie together
pub of-word : (word from step key : ℕ) → step < 2 ^ 32 → touch word from ≤ key → key ≤ touch word step
    → (key / 2 ^ 32 ≡ word) × (key % 2 ^ 32 ≤ step)
of-word word from step key small low high = (omega arith, omega arith)

-- none is told of before the number at which a search ended, if that is of another word or there is none
module _ (keys : List ℕ) (sorted : IsNonDecreasingBy (λ (key : ℕ). key) keys) (word from place key : ℕ)
    (first : key ≡ touch word from)
    (before : (k d : ℕ) → k < place → get_or keys k d < key)
    (next : (k d : ℕ) → place ≤ k → k < length keys → key ≤ get_or keys k d) where
  -- a number that is told of is no lower than that one
  at-place : (step i : ℕ) → from ≤ step → step < 2 ^ 32 → i < length keys → get_or keys i 0 ≡ touch word step
      → (place < length keys) × (get_or keys place 0 / 2 ^ 32 ≡ word) × (get_or keys place 0 % 2 ^ 32 ≤ step)
  at-place step i later small within same = go (split i place)
    where
      split : (m n : ℕ) → (m < n) ⊎ (n ≤ m)
      split m n = grind arith

      go : (i < place) ⊎ (place ≤ i)
          → (place < length keys) × (get_or keys place 0 / 2 ^ 32 ≡ word) × (get_or keys place 0 % 2 ^ 32 ≤ step)
      go (inl less) = let low = before i 0 less in absurd (omega (arith, low, same, later, first))
      go (inr more) =
          let there : place < length keys = omega arith in
          let low = next place 0 (omega arith) there in
          let high = sorted place i 0 more within in
          let parts = of-word word from step (get_or keys place 0) small (omega (arith, low, first))
          (omega (arith, high, same)) in
          (there, parts.0, parts.1)

  pub none-but : (step : ℕ) → from ≤ step → step < 2 ^ 32
      → (place < length keys → get_or keys place 0 / 2 ^ 32 ≡ word → step < get_or keys place 0 % 2 ^ 32)
      → is_told keys word step ≡ false
  none-but step later small less =
      none-there keys (touch word step) (λ i within same.
      let found = at-place step i later small within same in
      let lower = less found.0 found.1 in
      let least = found.2 in
      omega (arith, lower, least))
