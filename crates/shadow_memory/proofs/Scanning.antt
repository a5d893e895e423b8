-- Sixteen words of bytes, compared at once.
use Rattle.std.proofs.Common.{◌≡◌, ℕ, zero, suc, Bool, true, false, ◌&&◌, List, [], ◌∷◌, map, length, get_or, replicate}
use Rattle.std.proofs.Common.{refl, ap, ap₂, sym, ◌∙◌, ◌+◌, ◌-◌, ◌*◌, ◌/◌, ◌%◌, ◌^◌, ◌<◌, ◌≤◌, inl, inr, cond, eqb}
use Rattle.std.proofs.Common.{leb, ltb, min, not}
use Rattle.std.proofs.Common.{Fits, w8, w32, slice_index, nat_le, nat_lt, arith}
use Rattle.std.proofs.lemmas.Bool.{cases_lt}
use Rattle.std.proofs.lemmas.Bool.Decides.{nat_tests}
use Rattle.std.proofs.lemmas.List.{take_all}
use Rattle.std.proofs.lemmas.Simd.{bitmask_splat, chunk-fits, get_or-chunk, get_or-replicate, get_or-sel_l}
use Rattle.std.proofs.lemmas.Simd.{get_or_wider, length-chunk, length-replicate, length-sel_l, length-zip2}
use Rattle.std.proofs.lemmas.Simd.{none_from_empty_mask, below_from_Fits, get_or-zip2, tops_compared}
use lib.Lanes.{chunk, digits_l, mask_l, number_l, sel_l, top, zip2}
use Rattle.shadow_memory.specs.Ranges.{little_word}
use Rattle.shadow_memory.specs.Values.{value_at}
use Rattle.shadow_memory.proofs.Ranging.{same-number}

-- the number of four bytes in a list
number-of-four : (xs : List ℕ) → length xs ≡ 4 → number_l 256 xs ≡ little_word (λ i. get_or xs i 0)
unfolding little_word
number-of-four [] h = absurd (omega arith)
number-of-four (a ∷ []) h = absurd (omega arith)
number-of-four (a ∷ b ∷ []) h = absurd (omega arith)
number-of-four (a ∷ b ∷ c ∷ []) h = absurd (omega arith)
number-of-four (a ∷ b ∷ c ∷ d ∷ []) h = omega arith
number-of-four (a ∷ b ∷ c ∷ d ∷ e ∷ xs) h = absurd (omega arith)

length-digits : (p n x : ℕ) → length (digits_l p n x) ≡ n
length-digits p zero x = refl
length-digits p (suc n) x = ap suc (length-digits p n (x / p))

-- if the mask of a comparison is empty, each lane is greater
pub lanes-greater : (lanes : List ℕ) (n most : ℕ) → length lanes ≡ n → n ≤ 64
    → mask_l (map (top 31) (zip2 (λ a b. cond (leb a b) (2 ^ 32 - 1) 0) lanes (replicate n most))) % 2 ^ 64 ≡ 0
    → (k : ℕ) → k < n → most < get_or lanes k 0
lanes-greater lanes n most long few empty k near =
    let none : mask_l (map (λ x. leb x most) lanes) ≡ 0 =
    sym (bitmask_splat w32 leb lanes n most long few) ∙ empty in
    let whole : chunk 0 n lanes ≡ lanes = take_all n lanes (omega arith) in
    let fails : leb (get_or lanes k 0) most ≡ false =
    none_from_empty_mask (λ x. leb x most) lanes 0 n 0 (omega arith)
    (ap (λ (xs : List ℕ). mask_l (map (λ x. leb x most) xs)) whole ∙ none) k (omega arith) (omega arith) in
    is-greater (get_or lanes k 0) most fails
  where
    is-greater : (x most : ℕ) → leb x most ≡ false → most < x
    is-greater x most h = grind (arith, nat_tests)

-- the words of a list of bytes
word-of : (bytes : List ℕ) (at j : ℕ) → at + 64 ≤ length bytes → ((k : ℕ) → Fits w8 (get_or bytes k 0)) → j < 16
    → get_or (digits_l (2 ^ 32) 16 (number_l 256 (chunk at 64 bytes))) j 0 ≡ value_at (slice_index bytes) (at + 4 * j)
word-of bytes at j room fits near =
    let xs = chunk at 64 bytes in
    let long : length xs ≡ 64 = length-chunk at 64 bytes room in
    let four : length (chunk (4 * j) 4 xs) ≡ 4 = length-chunk (4 * j) 4 xs (omega arith) in
    get_or_wider 256 4 (2 ^ 32) 16 xs j refl (below_from_Fits w8 xs (chunk-fits w8 at 64 bytes fits)) near
    ∙ number-of-four (chunk (4 * j) 4 xs) four
    ∙ same-number (λ i. get_or (chunk (4 * j) 4 xs) i 0) (λ i. slice_index bytes (at + 4 * j + i)) (λ i few.
    let e : at + (4 * j + i) ≡ at + 4 * j + i = omega arith in
    get_or-chunk (4 * j) 4 xs i 0 few ∙ get_or-chunk at 64 bytes (4 * j + i) 0 (omega arith)
    ∙ ap (λ k. get_or bytes k 0) e)

value-fits : (bytes : List ℕ) (a : ℕ) → ((k : ℕ) → get_or bytes k 0 < 256) → value_at (slice_index bytes) a < 2 ^ 32
unfolding little_word
value-fits bytes a small = omega (arith, small (a + 0), small (a + 1), small (a + 2), small (a + 3))

is-below : (low n : ℕ) → n < low → nat_le low n ≡ false
is-below low n h = grind (arith, nat_tests)

is-above : (n high : ℕ) → high ≤ n → nat_lt n high ≡ false
is-above n high h = grind (arith, nat_tests)

later-false : (p q : Bool) → q ≡ false → (p && q) ≡ false
later-false false q e = refl
later-false true q e = e

-- a value that isn't among so many from the least one on
outside : (v low high most : ℕ) → v < 2 ^ 32 → low < 2 ^ 32 → most ≡ min (high - (low + 1)) (2 ^ 32 - 1)
    → most < (v + (2 ^ 32 - low)) % 2 ^ 32 → (nat_le low v && nat_lt v high) ≡ false
outside v low high most word low-word most-is far = elim (cases_lt v low) [
  | inl less ↦ ap (λ b. b && nat_lt v high) (is-below low v less)
  | inr more ↦ later-false (nat_le low v) (nat_lt v high) (is-above v high (omega arith))
]

pub word-outside : (bytes : List ℕ) (a low high most : ℕ) → ((k : ℕ) → Fits w8 (get_or bytes k 0)) → low < 2 ^ 32
    → most ≡ min (high - (low + 1)) (2 ^ 32 - 1)
    → most < (value_at (slice_index bytes) a + (2 ^ 32 - low)) % 2 ^ 32
    → (nat_le low (value_at (slice_index bytes) a) && nat_lt (value_at (slice_index bytes) a) high) ≡ false
word-outside bytes a low high most fits low-word most-is far =
    outside (value_at (slice_index bytes) a) low high most (value-fits bytes a (λ k. (fits k).fits)) low-word
    most-is far

-- the lanes of sixteen words
pub lane-above : (bytes : List ℕ) (at low j : ℕ) → at + 64 ≤ length bytes → ((k : ℕ) → Fits w8 (get_or bytes k 0))
    → j < 16
    → get_or (zip2 (λ a b. (a + (2 ^ 32 - b)) % 2 ^ 32) (digits_l (2 ^ 32) 16 (number_l 256 (chunk at 64 bytes)))
    (replicate 16 low)) j 0
    ≡ (value_at (slice_index bytes) (at + 4 * j) + (2 ^ 32 - low)) % 2 ^ 32
lane-above bytes at low j room fits near =
    let words = digits_l (2 ^ 32) 16 (number_l 256 (chunk at 64 bytes)) in
    let long : length words ≡ 16 = length-digits (2 ^ 32) 16 (number_l 256 (chunk at 64 bytes)) in
    let many : length (replicate 16 low) ≡ 16 = length-replicate 16 low in
    get_or-zip2 (λ a b. (a + (2 ^ 32 - b)) % 2 ^ 32) words (replicate 16 low) j 0 0 0 (omega arith) (omega arith)
    ∙ ap₂ (λ a b. (a + (2 ^ 32 - b)) % 2 ^ 32) (word-of bytes at j room fits near) (get_or-replicate 16 j low 0 near)

-- the lesser of two lanes
pub lesser-lanes : (a b : List ℕ) (n : ℕ) → length a ≡ n → length b ≡ n
    → (length (sel_l (map (top 31) (zip2 (λ x y. cond (ltb x y) (2 ^ 32 - 1) 0) a b)) a b) ≡ n)
    × ((k : ℕ) → k < n → get_or (sel_l (map (top 31) (zip2 (λ x y. cond (ltb x y) (2 ^ 32 - 1) 0) a b)) a b) k 0
    ≡ min (get_or a k 0) (get_or b k 0))
lesser-lanes a b n la lb =
    let tests : map (top 31) (zip2 (λ x y. cond (ltb x y) (2 ^ 32 - 1) 0) a b) ≡ zip2 ltb a b =
    tops_compared w32 ltb a b in
    let long : length (zip2 ltb a b) ≡ n = length-zip2 ltb a b (la ∙ sym lb) ∙ la in (
      ap (λ (ms : List Bool). length (sel_l ms a b)) tests
          ∙ length-sel_l (zip2 ltb a b) a b (long ∙ sym la) (long ∙ sym lb) ∙ long,
      λ k near.
          ap (λ (ms : List Bool). get_or (sel_l ms a b) k 0) tests
          ∙ get_or-sel_l (zip2 ltb a b) a b k 0 (omega arith) (omega arith) (omega arith)
          ∙ ap (λ t. cond t (get_or a k 0) (get_or b k 0)) (get_or-zip2 ltb a b k 0 0 false (omega arith) (omega arith))
          ∙ is-min (get_or a k 0) (get_or b k 0),
    )
  where
    is-min : (x y : ℕ) → cond (ltb x y) x y ≡ min x y
    is-min x y = grind (arith, nat_tests)

-- if no byte of 64 differs from 0
pub bytes-zero : (bytes : List ℕ) (at : ℕ) → at + 64 ≤ length bytes
    → mask_l (map (top 7) (zip2 (λ a b. cond (not (eqb a b)) (2 ^ 8 - 1) 0) (chunk at 64 bytes) (replicate 64 0)))
    % 2 ^ 64 ≡ 0
    → (k : ℕ) → k < 64 → get_or bytes (at + k) 0 ≡ 0
bytes-zero bytes at room empty k near =
    let long : length (chunk at 64 bytes) ≡ 64 = length-chunk at 64 bytes room in
    let none : mask_l (map (λ x. not (eqb x 0)) (chunk at 64 bytes)) ≡ 0 =
    sym (bitmask_splat w8 (λ x y. not (eqb x y)) (chunk at 64 bytes) 64 0 long (omega arith)) ∙ empty in
    is-zero (get_or bytes (at + k) 0)
    (none_from_empty_mask (λ x. not (eqb x 0)) bytes at 64 0 room none (at + k) (omega arith) (omega arith))
  where
    is-zero : (x : ℕ) → not (eqb x 0) ≡ false → x ≡ 0
    is-zero x h = grind (arith, nat_tests)
