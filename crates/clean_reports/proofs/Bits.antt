-- Lemmas on bits: of a byte of a number, of a number of four bytes, and of a sign extension.
use Rattle.std.proofs.Common.{◌≡◌, ℕ, zero, suc, ◌+◌, ◌-◌, ◌*◌, ◌/◌, ◌%◌, ◌^◌, ◌<◌, ◌≤◌, min, Bool, true, false, refl}
use Rattle.std.proofs.Common.{sym}
use Rattle.std.proofs.Common.{ap, ◌∙◌, inl, inr, arith, nat_lt, cond}
use Rattle.std.specs.Int.{bit_at}
use Rattle.std.proofs.lemmas.Bool.{cases_lt, ltb-true, ltb-false}
use Rattle.std.proofs.lemmas.Nat.{shr-shr}
use Rattle.std.proofs.lemmas.Nat.Bits.{bit_at_above, bit_at_cat_low, bit_at_cat_high, bit_at_ones}
use Rattle.std.proofs.lemmas.Nat.Bits.{same_from_bits_below}
use Rattle.definedness.proofs.Words.{bit_from_low}
use Rattle.definedness.proofs.Masks.{lower_power}
use Rattle.definedness.specs.Law.{AgreeWhereDefined}
use Rattle.shadow_memory.specs.Ranges.{byte_of, little_word}
use Rattle.shadow_memory.proofs.Ranging.{byte-of-number}
use Rattle.instructions.specs.Alu.{extended}
use Rattle.instructions.specs.Widths.{width_len}
use Rattle.instructions.specs.declared.width.Width.{Width}
use Rattle.instructions.specs.declared.width.Width.TheVariants.{Byte, Half, Word}

low-bits : (v j : ℕ) → j < 8 → bit_at (v % 2 ^ 8) j ≡ bit_at v j
low-bits v j h = bit_from_low (v % 2 ^ 8) v j (lower_power v 8 (suc j) h)

shifted-bit : (v k j : ℕ) → bit_at (v / 2 ^ k) j ≡ bit_at v (k + j)
shifted-bit v k j = ap (λ n. n % 2) (shr-shr v k j)

-- bit j of byte i of a number is bit 8i + j of the number
pub byte-bit : (v i j : ℕ) → i < 4 → j < 8 → bit_at (byte_of v i) j ≡ bit_at v (8 * i + j)
unfolding byte_of
byte-bit v zero j h l = low-bits (v / 2 ^ 0) j l ∙ shifted-bit v 0 j
byte-bit v (suc zero) j h l = low-bits (v / 2 ^ 8) j l ∙ shifted-bit v 8 j
byte-bit v (suc (suc zero)) j h l = low-bits (v / 2 ^ 16) j l ∙ shifted-bit v 16 j
byte-bit v (suc (suc (suc zero))) j h l = low-bits (v / 2 ^ 24) j l ∙ shifted-bit v 24 j
byte-bit v (suc (suc (suc (suc i)))) j h l = absurd (omega (arith, h))

-- two bytes agree at the bits that are clear in a third
abbrev pub Under : ℕ → ℕ → ℕ → Type 0
Under undef a b = (j : ℕ) → j < 8 → bit_at undef j ≡ 0 → bit_at a j ≡ bit_at b j

-- where two numbers agree, their bytes do
pub bytes-of : (undef v w : ℕ) → AgreeWhereDefined undef v w → (i : ℕ) → i < 4
    → Under (byte_of undef i) (byte_of v i) (byte_of w i)
bytes-of undef v w agree i h j l clear =
    byte-bit v i j h l
    ∙ agree (8 * i + j) (omega arith) (sym (byte-bit undef i j h l) ∙ clear)
    ∙ sym (byte-bit w i j h l)

-- bit k of a number of four bytes is a bit of byte k / 8
pub word-bit : (f : ℕ → ℕ) → ((i : ℕ) → f i < 256) → (k : ℕ) → k < 32
    → bit_at (little_word f) k ≡ bit_at (f (k / 8)) (k % 8)
word-bit f small k h =
    let parts : k ≡ 8 * (k / 8) + k % 8 = omega arith in
    let low : k % 8 < 8 = omega arith in
    let high : k / 8 < 4 = omega arith in
    ap (λ n. bit_at (little_word f) n) parts
    ∙ sym (byte-bit (little_word f) (k / 8) (k % 8) high low)
    ∙ ap (λ b. bit_at b (k % 8)) (byte-of-number f small (k / 8) high)

-- where four bytes agree, their numbers do
pub words-agree : (u f g : ℕ → ℕ) → ((i : ℕ) → u i < 256) → ((i : ℕ) → f i < 256) → ((i : ℕ) → g i < 256)
    → ((i : ℕ) → i < 4 → Under (u i) (f i) (g i)) → AgreeWhereDefined (little_word u) (little_word f) (little_word g)
words-agree u f g small_u small_f small_g each k h clear =
    let low : k % 8 < 8 = omega arith in
    let high : k / 8 < 4 = omega arith in
    word-bit f small_f k h
    ∙ each (k / 8) high (k % 8) low (sym (word-bit u small_u k h) ∙ clear)
    ∙ sym (word-bit g small_g k h)

-- two bytes that agree at all bits are equal
pub same-byte : (undef a b : ℕ) → undef ≡ 0 → a < 256 → b < 256 → Under undef a b → a ≡ b
same-byte undef a b none small_a small_b agree =
    same_from_bits_below 8 a b small_a small_b (λ j h. agree j h (ap (λ n. bit_at n j) none ∙ zero-bit j))
  where
    zero-bit : (j : ℕ) → bit_at 0 j ≡ 0
    zero-bit j = bit_at_above 0 0 j (omega arith) (omega arith)

-- sign extension --

-- a number of some bits with ones set-in above them
ones-above : (low high x k : ℕ) → x < 2 ^ low → low ≤ k → k < low + high
    → bit_at (x + (2 ^ high - 1) * 2 ^ low) k ≡ 1
ones-above low high x k below from to =
    ap (λ n. bit_at n k) (swap x ((2 ^ high - 1) * 2 ^ low))
    ∙ bit_at_cat_high (2 ^ high - 1) low x k below from ∙ bit_at_ones high (k - low) (omega arith)
  where
    swap : (m n : ℕ) → m + n ≡ n + m
    swap m n = omega arith

ones-below : (low high x k : ℕ) → k < low → bit_at (x + (2 ^ high - 1) * 2 ^ low) k ≡ bit_at x k
ones-below low high x k below =
    ap (λ n. bit_at n k) (swap x ((2 ^ high - 1) * 2 ^ low)) ∙ bit_at_cat_low (2 ^ high - 1) low x k below
  where
    swap : (m n : ℕ) → m + n ≡ n + m
    swap m n = omega arith

-- each bit from the top bit on repeats the top bit, whether it is set or not
extended-by : (b : Bool) (top high more x k : ℕ) → nat_lt x (2 ^ top) ≡ b → x < 2 ^ suc top
    → more ≡ (2 ^ high - 1) * 2 ^ suc top → suc top + high ≡ 32 → bit_at x top ≡ cond b 0 1 → k < 32
    → bit_at (cond b x (x + more)) k ≡ bit_at x (min k top)
extended-by true top high more x k low below is width bit h =
    elim (cases_lt k (suc top)) [
      | inl under ↦ let same : k ≡ min k top = omega arith in ap (λ n. bit_at x n) same
      | inr over ↦
          let same : min k top ≡ top = omega arith in
          bit_at_above x (suc top) k below over ∙ sym bit ∙ ap (λ n. bit_at x n) (sym same)
    ]
extended-by false top high more x k low below is width bit h =
    ap (λ m. bit_at (x + m) k) is
    ∙ (elim (cases_lt k (suc top)) [
      | inl under ↦ let same : k ≡ min k top = omega arith in
          ones-below (suc top) high x k under ∙ ap (λ n. bit_at x n) same
      | inr over ↦
          let same : min k top ≡ top = omega arith in
          ones-above (suc top) high x k below over (omega arith) ∙ sym bit ∙ ap (λ n. bit_at x n) (sym same)
    ])

top-bit : (b : Bool) (top x : ℕ) → nat_lt x (2 ^ top) ≡ b → x < 2 ^ suc top → bit_at x top ≡ cond b 0 1
top-bit true top x e below = bit_at_above x top top (ltb-true x (2 ^ top) e) (omega arith)
top-bit false top x e below =
    let over : 2 ^ top ≤ x = ltb-false x (2 ^ top) e in
    let twice : 2 ^ suc top ≡ 2 * 2 ^ top = omega arith in
    let split : x ≡ 1 * 2 ^ top + (x - 2 ^ top) = omega arith in
    let rest : x - 2 ^ top < 2 ^ top = omega arith in
    ap (λ n. bit_at n top) split ∙ bit_at_cat_high 1 top (x - 2 ^ top) top rest (omega arith)
    ∙ (let none : top - top ≡ 0 = omega arith in ap (λ n. bit_at 1 n) none)

signed-bit : (top high more x k : ℕ) → x < 2 ^ suc top → more ≡ (2 ^ high - 1) * 2 ^ suc top → suc top + high ≡ 32
    → k < 32 → bit_at (cond (nat_lt x (2 ^ top)) x (x + more)) k ≡ bit_at x (min k top)
signed-bit top high more x k below is width h =
    extended-by (nat_lt x (2 ^ top)) top high more x k refl below is width
    (top-bit (nat_lt x (2 ^ top)) top x refl below) h

-- which bit of the loaded number is bit k of what a load puts in a register
abbrev pub bit-place : Width → Bool → ℕ → ℕ
bit-place Byte true k = min k 7
bit-place Half true k = min k 15
bit-place Word true k = min k 31
bit-place width false k = k

pub extended-bit : (width : Width) (signed : Bool) (x k : ℕ) → x < 2 ^ (8 * width_len width) → k < 32
    → bit_at (extended width signed x) k ≡ bit_at x (bit-place width signed k)
unfolding extended
extended-bit Byte true x k below h = signed-bit 7 24 (2 ^ 32 - 2 ^ 8) x k below refl refl h
extended-bit Half true x k below h = signed-bit 15 16 (2 ^ 32 - 2 ^ 16) x k below refl refl h
extended-bit Word true x k below h = signed-bit 31 0 (2 ^ 32 - 2 ^ 32) x k below refl refl h
extended-bit Byte false x k below h = refl
extended-bit Half false x k below h = refl
extended-bit Word false x k below h = refl

place-lt : (width : Width) (signed : Bool) (k : ℕ) → k < 32 → bit-place width signed k < 32
place-lt Byte true k h = omega arith
place-lt Half true k h = omega arith
place-lt Word true k h = omega arith
place-lt Byte false k h = h
place-lt Half false k h = h
place-lt Word false k h = h

-- so the extended values agree where the extended undefined bits are clear
pub extended-agree : (width : Width) (signed : Bool) (u x y : ℕ) → u < 2 ^ (8 * width_len width)
    → x < 2 ^ (8 * width_len width) → y < 2 ^ (8 * width_len width) → AgreeWhereDefined u x y
    → AgreeWhereDefined (extended width signed u) (extended width signed x) (extended width signed y)
extended-agree width signed u x y below_u below_x below_y agree k h clear =
    extended-bit width signed x k below_x h
    ∙ agree (bit-place width signed k) (place-lt width signed k h)
    (sym (extended-bit width signed u k below_u h) ∙ clear)
    ∙ sym (extended-bit width signed y k below_y h)

signed-lt : (b : Bool) (top more x : ℕ) → nat_lt x (2 ^ top) ≡ b → x < 2 ^ suc top → 2 ^ suc top + more ≡ 2 ^ 32
    → cond b x (x + more) < 2 ^ 32
signed-lt true top more x e below is = omega arith
signed-lt false top more x e below is = omega arith

pub extended-lt : (width : Width) (signed : Bool) (x : ℕ) → x < 2 ^ (8 * width_len width)
    → extended width signed x < 2 ^ 32
unfolding extended
extended-lt Byte true x below = signed-lt (nat_lt x (2 ^ 7)) 7 (2 ^ 32 - 2 ^ 8) x refl below refl
extended-lt Half true x below = signed-lt (nat_lt x (2 ^ 15)) 15 (2 ^ 32 - 2 ^ 16) x refl below refl
extended-lt Word true x below = signed-lt (nat_lt x (2 ^ 31)) 31 (2 ^ 32 - 2 ^ 32) x refl below refl
extended-lt Byte false x below = omega arith
extended-lt Half false x below = omega arith
extended-lt Word false x below = below

-- bytes past the width are 0, so their number has no more bits than the width
pub window-lt : (width : Width) (f : ℕ → ℕ) → ((i : ℕ) → f i < 256) → ((i : ℕ) → width_len width ≤ i → f i ≡ 0)
    → little_word f < 2 ^ (8 * width_len width)
unfolding little_word
window-lt Byte f small past =
    omega (arith, small 0, past 1 (omega arith), past 2 (omega arith), past 3 (omega arith))
window-lt Half f small past = omega (arith, small 0, small 1, past 2 (omega arith), past 3 (omega arith))
window-lt Word f small past = omega (arith, small 0, small 1, small 2, small 3)
