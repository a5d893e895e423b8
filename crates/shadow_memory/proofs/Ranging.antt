-- Searches for a word whose value lies in a range, from page to page.
use Rattle.std.proofs.Common.{◌≡◌, ℕ, zero, suc, Bool, true, false, not, ◌&&◌, refl, ap, ap₂, sym, ◌∙◌, ◌+◌, ◌-◌}
use Rattle.std.proofs.Common.{◌*◌, ◌/◌, ◌%◌, ◌^◌, ◌<◌, ◌≤◌, inl, inr, IsFalse, nat_le, nat_lt, arith}
use Rattle.std.proofs.lemmas.Bool.{cases_lt, false≢true}
use Rattle.std.proofs.lemmas.Bool.Decides.{nat_tests}
use Rattle.shadow_memory.specs.Cells.{shadow_in}
use Rattle.shadow_memory.specs.Ranges.{byte_of, little_word}
use Rattle.shadow_memory.specs.Shadows.{Shadow, holds_word, is_bad}
use Rattle.shadow_memory.specs.Values.{value_at, holds_in_range, HoldNoneInRange, IsNextInRange}
use Rattle.shadow_memory.specs.declared.cells.Cell.{Cell}
use Rattle.shadow_memory.proofs.Searching.{word-seen}

pub same-number : (f g : ℕ → ℕ) → ((i : ℕ) → i < 4 → f i ≡ g i) → little_word f ≡ little_word g
unfolding little_word
same-number f g same =
    let first = same 0 (omega arith) in
    let second = same 1 (omega arith) in
    let third = same 2 (omega arith) in
    let fourth = same 3 (omega arith) in
    λ i. first i + 256 * second i + 65536 * third i + 16777216 * fourth i

pub zero-number : little_word (λ i. 0) ≡ 0
unfolding little_word
zero-number = refl

not-from : (low : ℕ) → 0 < low → nat_le low 0 ≡ false
not-from low positive = grind (arith, nat_tests)

-- zeros have no value above 0
pub zeros-hold-none : (bytes : ℕ → ℕ) (shadows : ℕ → Shadow) (low high from to : ℕ) → 0 < low → ((k : ℕ) → bytes k ≡ 0)
    → HoldNoneInRange bytes shadows low high from to
zeros-hold-none bytes shadows low high from to positive zeros a start below aligned =
    let value : value_at bytes a ≡ 0 = same-number (λ i. bytes (a + i)) (λ i. 0) (λ i few. zeros (a + i))
    ∙ zero-number in
    ap (λ b. b && nat_lt (value_at bytes a) high && holds_word shadows a) (ap (nat_le low) value
    ∙ not-from low positive)

-- another multiple of 4 is looked at
pub value-more : (bytes : ℕ → ℕ) (shadows : ℕ → Shadow) (low high from at : ℕ) → at % 4 ≡ 0
    → HoldNoneInRange bytes shadows low high from at
    → holds_in_range bytes shadows low high at ≡ false
    → HoldNoneInRange bytes shadows low high from (at + 4)
value-more bytes shadows low high from at whole before here a start below aligned = elim (cases_lt a at) [
  | inl early ↦ before a start early aligned
  | inr late ↦ let e : a ≡ at = omega arith in ap (holds_in_range bytes shadows low high) e ∙ here
]

both-false : (p q w : Bool) → (p && q) ≡ false → (p && q && w) ≡ false
both-false true true w h = absurd (false≢true (sym h))
both-false true false w h = refl
both-false false q w h = refl

-- what comes up to a place, and from there on
pub values-join : (bytes : ℕ → ℕ) (shadows : ℕ → Shadow) (low high from at to : ℕ)
    → HoldNoneInRange bytes shadows low high from at → HoldNoneInRange bytes shadows low high at to
    → HoldNoneInRange bytes shadows low high from to
values-join bytes shadows low high from at to before after a start below aligned = elim (cases_lt a at) [
  | inl early ↦ before a start early aligned
  | inr late ↦ after a late below aligned
]

-- a number of words whose values lie outside
pub values-outside : (bytes : ℕ → ℕ) (shadows : ℕ → Shadow) (low high at n : ℕ) → at % 4 ≡ 0
    → ((j : ℕ) → j < n
    → (nat_le low (value_at bytes (at + 4 * j)) && nat_lt (value_at bytes (at + 4 * j)) high) ≡ false)
    → HoldNoneInRange bytes shadows low high at (at + 4 * n)
values-outside bytes shadows low high at n whole none a start below aligned =
    let j : ℕ = (a - at) / 4 in
    let near : j < n = omega arith in
    let e : a ≡ at + 4 * j = omega arith in
    ap (holds_in_range bytes shadows low high) e
    ∙ both-false (nat_le low (value_at bytes (at + 4 * j))) (nat_lt (value_at bytes (at + 4 * j)) high)
    (holds_word shadows (at + 4 * j)) (none j near)

-- what the highest of four bytes says about their value
is-below : (low n : ℕ) → n < low → nat_le low n ≡ false
is-below low n h = grind (arith, nat_tests)

is-above : (n high : ℕ) → high ≤ n → nat_lt n high ≡ false
is-above n high h = grind (arith, nat_tests)

pub highest-below : (byte : ℕ → ℕ) (low high : ℕ) → byte 0 < 256 → byte 1 < 256 → byte 2 < 256 → byte 3 < low / 16777216
    → (nat_le low (little_word byte) && nat_lt (little_word byte) high) ≡ false
unfolding little_word
highest-below byte low high first second third h =
    ap (λ b. b && nat_lt (little_word byte) high) (is-below low (little_word byte) (omega arith))

pub highest-above : (byte : ℕ → ℕ) (low high : ℕ) → high ≤ byte 3 * 16777216
    → (nat_le low (little_word byte) && nat_lt (little_word byte) high) ≡ false
unfolding little_word
highest-above byte low high h =
    later-false (nat_le low (little_word byte)) (nat_lt (little_word byte) high)
    (is-above (little_word byte) high (omega arith))
  where
    later-false : (p q : Bool) → q ≡ false → (p && q) ≡ false
    later-false false q e = refl
    later-false true q e = e

-- a highest byte that isn't one of this many from the least one on, by one comparison that wraps
pub highest-outside : (byte : ℕ → ℕ) (low high highest least count : ℕ) → low < 2 ^ 32 → byte 0 < 256 → byte 1 < 256
    → byte 2 < 256 → byte 3 < 256
    → highest ≡ byte 3 → least ≡ low / 16777216 → count ≡ high / 16777216 + 1 - least
    → IsFalse (nat_lt ((highest + (2 ^ 64 - least)) % 2 ^ 64) count)
    → (nat_le low (little_word byte) && nat_lt (little_word byte) high) ≡ false
highest-outside byte low high highest least count word first second third fourth is least-is count-is fails =
    elim (cases_lt (byte 3) (low / 16777216)) [
      | inl less ↦ highest-below byte low high first second third less
      | inr more ↦ (
          let far : count ≤ (highest + (2 ^ 64 - least)) % 2 ^ 64 = grind (arith, nat_tests, fails) in
          highest-above byte low high (omega (arith, word, fourth, is, least-is, count-is, more, far))
          )
    ]

pub bad-first : (b p q r : Bool) → b ≡ true → (not b && p && q && r) ≡ false
bad-first true p q r h = refl
bad-first false p q r h = absurd (false≢true h)

last-false : (p q w : Bool) → w ≡ false → (p && q && w) ≡ false
last-false true true w h = h
last-false true false w h = refl
last-false false q w h = refl

-- where the first byte is bad there is no word
pub bad-holds-none : (bytes : ℕ → ℕ) (shadows : ℕ → Shadow) (low high a : ℕ) → is_bad true (shadows a) ≡ true
    → holds_in_range bytes shadows low high a ≡ false
bad-holds-none bytes shadows low high a bad =
    last-false (nat_le low (value_at bytes a)) (nat_lt (value_at bytes a) high) (holds_word shadows a)
    (bad-first (is_bad true (shadows a)) _ _ _ bad)

module _ (cells seen : ℕ → Cell) (start low high : ℕ) (page : start % 4096 ≡ 0) (same : (a : ℕ)
    → a / 4096 ≡ start / 4096 → cells a ≡ seen (a % 4096)) where
  value-seen : (k : ℕ) → k % 4 ≡ 0 → k < 4096
      → value_at (λ a. (cells a).byte) (start + k) ≡ value_at (λ a. (seen a).byte) k
  value-seen k aligned below = same-number _ _ (λ i few.
      let there : (start + k + i) / 4096 ≡ start / 4096 = omega arith in
      let place : (start + k + i) % 4096 ≡ k + i = omega arith in
      ap (λ (c : Cell). c.byte) (same (start + k + i) there ∙ ap seen place))

  holds-seen : (k : ℕ) → k % 4 ≡ 0 → k < 4096
      → holds_in_range (λ a. (cells a).byte) (λ a. shadow_in (cells a)) low high (start + k)
      ≡ holds_in_range (λ a. (seen a).byte) (λ a. shadow_in (seen a)) low high k
  holds-seen k aligned below =
      ap₂ (λ (n : ℕ) (b : Bool). nat_le low n && nat_lt n high && b) (value-seen k aligned below)
      (word-seen cells seen start page same k aligned below)

  pub page-holds-none : (addr from to : ℕ) → to ≤ 4096
      → HoldNoneInRange (λ a. (seen a).byte) (λ a. shadow_in (seen a)) low high from to
      → HoldNoneInRange (λ a. (cells a).byte) (λ a. shadow_in (cells a)) low high addr (start + from)
      → HoldNoneInRange (λ a. (cells a).byte) (λ a. shadow_in (cells a)) low high addr (start + to)
  page-holds-none addr from to within none before a above below aligned = elim (cases_lt a (start + from)) [
    | inl early ↦ before a above early aligned
    | inr late ↦
        let k : ℕ = a - start in
        let e : start + k ≡ a = omega arith in
        let near : k < to = omega arith in
        let four : k % 4 ≡ 0 = omega arith in
        ap (holds_in_range (λ a. (cells a).byte) (λ a. shadow_in (cells a)) low high) (sym e)
        ∙ holds-seen k four (omega arith) ∙ none k (omega arith) near four
  ]

  pub next-in-page : (addr from place : ℕ)
      → IsNextInRange (λ a. (seen a).byte) (λ a. shadow_in (seen a)) low high from place → place < 4096
      → addr ≤ start + from
      → HoldNoneInRange (λ a. (cells a).byte) (λ a. shadow_in (cells a)) low high addr (start + from)
      → IsNextInRange (λ a. (cells a).byte) (λ a. shadow_in (cells a)) low high addr (start + place)
  next-in-page addr from place next inside above before =
      let later : from ≤ place = next.above in
      let four : place % 4 ≡ 0 = next.aligned in
      record {
        above = omega arith;
        aligned = omega arith;
        holds = holds-seen place four inside ∙ next.holds;
        least = page-holds-none addr from place (omega arith) next.least before;
      }

-- the bytes of the number of four bytes are these
pub byte-of-number : (b : ℕ → ℕ) → ((i : ℕ) → b i < 256) → (i : ℕ) → i < 4 → byte_of (little_word b) i ≡ b i
unfolding byte_of little_word
byte-of-number b small zero h =
    omega (arith, small 0, small 1, small 2, small 3)
byte-of-number b small (suc zero) h =
    omega (arith, small 0, small 1, small 2, small 3)
byte-of-number b small (suc (suc zero)) h =
    omega (arith, small 0, small 1, small 2, small 3)
byte-of-number b small (suc (suc (suc zero))) h =
    omega (arith, small 0, small 1, small 2, small 3)
byte-of-number b small (suc (suc (suc (suc i)))) h = absurd (omega (arith, h))
