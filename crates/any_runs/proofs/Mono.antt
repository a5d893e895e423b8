-- Fewer undefined bits in the operands give fewer in the result.
use Rattle.std.proofs.Common.{◌≡◌, ℕ, zero, suc, ◌+◌, ◌-◌, ◌*◌, ◌%◌, ◌^◌, ◌<◌, ◌≤◌, ◌||◌, ◌&&◌, not, Bool, true, false}
use Rattle.std.proofs.Common.{cond, refl, sym, ap, ◌∙◌, subst, subst₂, inl, inr, arith, nat_le, nat_lt, ◌==◌, min}
use Rattle.std.specs.Int.{bit_at}
use Rattle.std.proofs.lemmas.Bool.{cases_Bool, or_parts, or_cases, and_parts, and_cases, not-true, not-false, ltb-true}
use Rattle.std.proofs.lemmas.Bool.Decides.{nat_tests}
use Rattle.std.proofs.lemmas.Nat.{pow_pos}
use Rattle.std.proofs.lemmas.Nat.Bits.{bit_at-lt, same_from_bits_below, bit_at_above}
use Rattle.definedness.specs.declared.Bits.{Bits}
use Rattle.definedness.specs.declared.Shift.{Shift}
use Rattle.definedness.specs.declared.Shift.TheVariants.{Left, Right, Arith}
use Rattle.definedness.specs.Operations.{flag_word, shift_amount}
use Rattle.definedness.specs.Undefined as Undef
use Rattle.definedness.specs.Undefined.{bit_is_set, some_below, word_of, either_is_undefined, is_defined_zero}
use Rattle.definedness.specs.Undefined.{is_defined_one, any_is_undefined, differ, defined_bits_differ}
use Rattle.definedness.specs.Undefined.{filled_bit_is_set, least_value, greatest_value, moved_bit_is_set}
use Rattle.definedness.specs.Undefined.{amount_is_undefined, carries_into, borrows_into}
use Rattle.definedness.proofs.Words.{word_of_lt, bit_at_word_of, clear_at, clear_from, none_below, none_from}
use Rattle.definedness.proofs.Words.{test_fails, low_split}
use Rattle.definedness.proofs.Carries.{filled_bit, least_bit, greatest_bit}
use Rattle.instructions.specs.Alu.{computed, undef_of, is_undecided}
use Rattle.instructions.specs.declared.instruction.Comparison.{Comparison}
use Rattle.instructions.specs.declared.instruction.Comparison.TheVariants.{Equal, NotEqual, Less, GreaterEqual}
use Rattle.instructions.specs.declared.instruction.Comparison.TheVariants.{LessUnsigned, GreaterEqualUnsigned}
use Rattle.instructions.specs.declared.instruction.Operation.{Operation}
use Rattle.instructions.specs.declared.instruction.Operation.TheVariants.{Add, Sub, ShiftLeft, SetLess}
use Rattle.instructions.specs.declared.instruction.Operation.TheVariants.{SetLessUnsigned, Xor, ShiftRight, ShiftArith}
use Rattle.instructions.specs.declared.instruction.Operation.TheVariants.{Or, And, Mul, MulHigh, MulHighSignedUnsigned}
use Rattle.instructions.specs.declared.instruction.Operation.TheVariants.{MulHighUnsigned, Div, DivUnsigned, Rem}
use Rattle.instructions.specs.declared.instruction.Operation.TheVariants.{RemUnsigned}
use Rattle.any_runs.specs.Sharper.{Within, Sharper, ComputedSharper}

-- the value of x with other undefined bits
abbrev pub under : Bits → ℕ → Bits
under x u = record { value = x.value; undef = u }

pub zero-bit : (i : ℕ) → bit_at 0 i ≡ 0
zero-bit i = bit_at_above 0 0 i (omega arith) (omega arith)

-- no undefined bit is none
pub none-within : (n u v : ℕ) → v < 2 ^ n → Within n u v → u ≡ 0 → v ≡ 0
none-within n u v small w none =
    same_from_bits_below n v 0 small (pow_pos n)
    (λ i h. w i h (ap (λ k. bit_at k i) none ∙ zero-bit i) ∙ sym (zero-bit i))

-- a word of a test that holds less often
within-words : (p q : ℕ → Bool) → ((i : ℕ) → i < 32 → p i ≡ false → q i ≡ false) → Within 32 (word_of p) (word_of q)
within-words p q less i h e = bit_at_word_of q i h ∙ ap flag_word (less i h (test_fails p i h e))

-- clear, as a test
clear-test : (u v i : ℕ) → Within 32 u v → i < 32 → bit_is_set u i ≡ false → bit_is_set v i ≡ false
clear-test u v i w h e = clear_from v i (w i h (clear_at u i e))

-- numbers in order at each bit below k are in order modulo 2 ^ k
low-ordered : (m n k : ℕ) → ((j : ℕ) → j < k → bit_at m j ≤ bit_at n j) → m % 2 ^ k ≤ n % 2 ^ k
low-ordered m n zero each = omega arith
low-ordered m n (suc k) each =
    let below : m % 2 ^ k ≤ n % 2 ^ k = low-ordered m n k (λ j h. each j (omega arith)) in
    let split_m : m % 2 ^ suc k ≡ bit_at m k * 2 ^ k + m % 2 ^ k = low_split m k in
    let split_n : n % 2 ^ suc k ≡ bit_at n k * 2 ^ k + n % 2 ^ k = low_split n k in
    rw (split_m, split_n) (top (bit_at m k) (bit_at n k) (2 ^ k) (m % 2 ^ k) (n % 2 ^ k) (each k (omega arith))
    (bit_at-lt n k) below)
  where
    top : (p q w r s : ℕ) → p ≤ q → q < 2 → r ≤ s → p * w + r ≤ q * w + s
    top zero q w r s h digit l = omega arith
    top (suc p) q w r s h digit l =
        let one : q ≡ 1 = omega arith in
        let other : p ≡ 0 = omega arith in
        rw (one, other) (omega arith)

-- fewer undefined bits: the least value is no lower, and the greatest no higher
module _ (x : Bits) (u : ℕ) (a : Within 32 x.undef u) where
  least-rises : (k : ℕ) → k ≤ 32 → least_value x % 2 ^ k ≤ least_value (under x u) % 2 ^ k
  least-rises k h = low-ordered (least_value x) (least_value (under x u)) k (λ j l. at j (omega arith))
    where
      at : (j : ℕ) → j < 32 → bit_at (least_value x) j ≤ bit_at (least_value (under x u)) j
      at j l =
          elim (cases_Bool (bit_is_set x.undef j)) [
            | inl undefined ↦
                let none : bit_at (least_value x) j ≡ 0 = least_bit x j l
                ∙ ap (λ t. flag_word (cond t false (bit_is_set x.value j))) undefined in omega arith
            | inr defined ↦
                let same : bit_at (least_value x) j ≡ bit_at (least_value (under x u)) j =
                least_bit x j l ∙ ap flag_word (filled_bit false x j defined)
                ∙ sym (ap flag_word (filled_bit false (under x u) j (clear-test x.undef u j a l defined)))
                ∙ sym (least_bit (under x u) j l) in
                omega arith
          ]

  greatest-falls : (k : ℕ) → k ≤ 32 → greatest_value (under x u) % 2 ^ k ≤ greatest_value x % 2 ^ k
  greatest-falls k h = low-ordered (greatest_value (under x u)) (greatest_value x) k (λ j l. at j (omega arith))
    where
      at : (j : ℕ) → j < 32 → bit_at (greatest_value (under x u)) j ≤ bit_at (greatest_value x) j
      at j l =
          elim (cases_Bool (bit_is_set x.undef j)) [
            | inl undefined ↦
                let one : bit_at (greatest_value x) j ≡ 1 = greatest_bit x j l
                ∙ ap (λ t. flag_word (cond t true (bit_is_set x.value j))) undefined in
                let digit : bit_at (greatest_value (under x u)) j < 2 = bit_at-lt (greatest_value (under x u)) j in
                omega arith
            | inr defined ↦
                let same : bit_at (greatest_value (under x u)) j ≡ bit_at (greatest_value x) j =
                greatest_bit (under x u) j l
                ∙ ap flag_word (filled_bit true (under x u) j (clear-test x.undef u j a l defined))
                ∙ sym (ap flag_word (filled_bit true x j defined)) ∙ sym (greatest_bit x j l) in
                omega arith
          ]

  least-below : (k : ℕ) → k ≤ 32 → least_value (under x u) % 2 ^ k ≤ greatest_value (under x u) % 2 ^ k
  least-below k h =
      low-ordered (least_value (under x u)) (greatest_value (under x u)) k (λ j l. at j (omega arith))
    where
      filled : (b v : Bool) → flag_word (cond b false v) ≤ flag_word (cond b true v)
      filled true v = omega arith
      filled false v = omega arith

      at : (j : ℕ) → j < 32 → bit_at (least_value (under x u)) j ≤ bit_at (greatest_value (under x u)) j
      at j l =
          subst₂ (λ m n. m ≤ n) (sym (least_bit (under x u) j l)) (sym (greatest_bit (under x u) j l))
          (filled (bit_is_set u j) (bit_is_set x.value j))

-- what two ends agree on, closer ends agree on
carry-ends : (w p q r s p' q' r' s' : ℕ) → p ≤ p' → q ≤ q' → r' ≤ r → s' ≤ s → p' ≤ r' → q' ≤ s'
    → nat_le w (p + q) ≡ nat_le w (r + s) → nat_le w (p' + q') ≡ nat_le w (r' + s')
carry-ends w p q r s p' q' r' s' a b c d e f ends = grind (arith, nat_tests)

borrow-ends : (p q r s p' q' r' s' : ℕ) → p ≤ p' → q' ≤ q → r' ≤ r → s ≤ s' → p' ≤ r' → s' ≤ q'
    → nat_lt p q ≡ nat_lt r s → nat_lt p' q' ≡ nat_lt r' s'
borrow-ends p q r s p' q' r' s' a b c d e f ends = grind (arith, nat_tests)

same-tests : (p q : Bool) → differ p q ≡ false → p ≡ q
same-tests true true e = refl
same-tests true false e = e
same-tests false true e = sym e
same-tests false false e = refl

differ-none : (p q : Bool) → p ≡ q → differ p q ≡ false
differ-none p q e = subst (λ r. differ p r ≡ false) e (self p)
  where
    self : (p : Bool) → differ p p ≡ false
    self true = refl
    self false = refl

and-false : (p : Bool) → (p && false) ≡ false
and-false true = refl
and-false false = refl

module _ (x y : Bits) (u w : ℕ) (a : Within 32 x.undef u) (b : Within 32 y.undef w) where
  either : (i : ℕ) → i < 32 → either_is_undefined x y i ≡ false → either_is_undefined (under x u) (under y w) i ≡ false
  either i h e =
      let parts = or_parts (bit_is_set x.undef i) (bit_is_set y.undef i) e in
      λ j. clear-test x.undef u i a h parts.0 j || clear-test y.undef w i b h parts.1 j

  any : any_is_undefined x y ≡ false → any_is_undefined (under x u) (under y w) ≡ false
  any e =
      none_from (either_is_undefined (under x u) (under y w)) 32
      (λ j h. either j h (none_below (either_is_undefined x y) 32 e j h))

  zero-stays : (z : Bits) (k : ℕ) → Within 32 z.undef k → (i : ℕ) → i < 32 → is_defined_zero z i ≡ true
      → is_defined_zero (under z k) i ≡ true
  zero-stays z k c i h e =
      let parts = and_parts (not (bit_is_set z.undef i)) (not (bit_is_set z.value i)) e in
      λ j. not (clear-test z.undef k i c h (not-true (bit_is_set z.undef i) parts.0) j) && parts.1 j

  one-stays : (z : Bits) (k : ℕ) → Within 32 z.undef k → (i : ℕ) → i < 32 → is_defined_one z i ≡ true
      → is_defined_one (under z k) i ≡ true
  one-stays z k c i h e =
      let parts = and_parts (not (bit_is_set z.undef i)) (bit_is_set z.value i) e in
      λ j. not (clear-test z.undef k i c h (not-true (bit_is_set z.undef i) parts.0) j) && parts.1 j

  -- a test that no masking bit stands, with masks that stay
  masked : (p q k l m n : Bool) → (p ≡ false → q ≡ false) → (k ≡ true → m ≡ true) → (l ≡ true → n ≡ true)
      → (p && not (k || l)) ≡ false → (q && not (m || n)) ≡ false
  masked p q k l m n first zx zy e =
      elim (and_cases p (not (k || l)) e) [
        | inl none ↦ λ j. first none j && not (m || n)
        | inr some ↦
            elim (or_cases k l (not-false (k || l) some)) [
              | inl left ↦ (λ j. q && not (zx left j || n)) ∙ and-false q
              | inr right ↦ (λ j. q && not (m || zy right j)) ∙ ap (λ t. q && not t) (or-true m) ∙ and-false q
            ]
      ]
    where
      or-true : (p : Bool) → (p || true) ≡ true
      or-true true = refl
      or-true false = refl

  undef-xor : Within 32 (Undef.undef_xor x y) (Undef.undef_xor (under x u) (under y w))
  unfolding Undef.undef_xor
  undef-xor = within-words _ _ (λ i h e. either i h e)

  undef-and : Within 32 (Undef.undef_and x y) (Undef.undef_and (under x u) (under y w))
  unfolding Undef.undef_and
  undef-and =
      within-words _ _ (λ i h e. masked _ _ (is_defined_zero x i) (is_defined_zero y i) _ _ (either i h)
      (zero-stays x u a i h) (zero-stays y w b i h) e)

  undef-or : Within 32 (Undef.undef_or x y) (Undef.undef_or (under x u) (under y w))
  unfolding Undef.undef_or
  undef-or =
      within-words _ _ (λ i h e. masked _ _ (is_defined_one x i) (is_defined_one y i) _ _ (either i h)
      (one-stays x u a i h) (one-stays y w b i h) e)

  undef-add : Within 32 (Undef.undef_add x y) (Undef.undef_add (under x u) (under y w))
  unfolding Undef.undef_add
  undef-add =
      within-words _ _ (λ i h e.
      let parts = or_parts (either_is_undefined x y i) (differ (carries_into (least_value x) (least_value y) i)
      (carries_into (greatest_value x) (greatest_value y) i)) e in
      let ends = same-tests (carries_into (least_value x) (least_value y) i)
      (carries_into (greatest_value x) (greatest_value y) i) parts.1 in
      let closer = carry-ends (2 ^ i) (least_value x % 2 ^ i) (least_value y % 2 ^ i) (greatest_value x % 2 ^ i)
      (greatest_value y % 2 ^ i) (least_value (under x u) % 2 ^ i) (least_value (under y w) % 2 ^ i)
      (greatest_value (under x u) % 2 ^ i) (greatest_value (under y w) % 2 ^ i)
      (least-rises x u a i (omega arith)) (least-rises y w b i (omega arith))
      (greatest-falls x u a i (omega arith)) (greatest-falls y w b i (omega arith))
      (least-below x u a i (omega arith)) (least-below y w b i (omega arith)) ends in
      λ j. either i h parts.0 j || differ-none _ _ closer j)

  undef-sub : Within 32 (Undef.undef_sub x y) (Undef.undef_sub (under x u) (under y w))
  unfolding Undef.undef_sub
  undef-sub =
      within-words _ _ (λ i h e.
      let parts = or_parts (either_is_undefined x y i) (differ (borrows_into (least_value x) (greatest_value y) i)
      (borrows_into (greatest_value x) (least_value y) i)) e in
      let ends = same-tests (borrows_into (least_value x) (greatest_value y) i)
      (borrows_into (greatest_value x) (least_value y) i) parts.1 in
      let closer = borrow-ends (least_value x % 2 ^ i) (greatest_value y % 2 ^ i) (greatest_value x % 2 ^ i)
      (least_value y % 2 ^ i) (least_value (under x u) % 2 ^ i) (greatest_value (under y w) % 2 ^ i)
      (greatest_value (under x u) % 2 ^ i) (least_value (under y w) % 2 ^ i)
      (least-rises x u a i (omega arith)) (greatest-falls y w b i (omega arith))
      (greatest-falls x u a i (omega arith)) (least-rises y w b i (omega arith))
      (least-below x u a i (omega arith)) (least-below y w b i (omega arith)) ends in
      λ j. either i h parts.0 j || differ-none _ _ closer j)

  undef-mul : Within 32 (Undef.undef_mul x y) (Undef.undef_mul (under x u) (under y w))
  unfolding Undef.undef_mul
  undef-mul =
      within-words _ _ (λ i h e. none_from (either_is_undefined (under x u) (under y w)) (suc i)
      (λ j l. either j (omega arith) (none_below (either_is_undefined x y) (suc i) e j l)))

  amount-stays : amount_is_undefined y ≡ false → amount_is_undefined (under y w) ≡ false
  amount-stays e =
      none_from (bit_is_set w) 5
      (λ j h. clear-test y.undef w j b (omega arith) (none_below (bit_is_set y.undef) 5 e j h))

  moved-stays : (shift : Shift) (k i : ℕ) → i < 32 → moved_bit_is_set shift x.undef k i ≡ false
      → moved_bit_is_set shift u k i ≡ false
  moved-stays Left k i h e =
      elim (and_cases (nat_le k i) (bit_is_set x.undef (i - k)) e) [
        | inl none ↦ λ j. none j && bit_is_set u (i - k)
        | inr clear ↦ (λ j. nat_le k i && clear-test x.undef u (i - k) a (omega arith) clear j) ∙ and-false (nat_le k i)
      ]
  moved-stays Right k i h e =
      elim (cases_Bool (nat_lt (i + k) 32)) [
        | inl low ↦
            let clear : bit_is_set x.undef (i + k) ≡ false =
            subst (λ t. (t && bit_is_set x.undef (i + k)) ≡ false) low e in
            ap (λ t. t && bit_is_set u (i + k)) low
            ∙ clear-test x.undef u (i + k) a (ltb-true (i + k) 32 low) clear
        | inr high ↦ ap (λ t. t && bit_is_set u (i + k)) high
      ]
  moved-stays Arith k i h e = clear-test x.undef u (min (i + k) 31) a (omega arith) e

  undef-shift : (shift : Shift)
      → Within 32 (Undef.undef_shift shift x y) (Undef.undef_shift shift (under x u) (under y w))
  unfolding Undef.undef_shift
  undef-shift shift =
      within-words _ _ (λ i h e.
      let parts = or_parts (amount_is_undefined y) (moved_bit_is_set shift x.undef (shift_amount y.value) i) e in
      λ j. amount-stays parts.0 j || moved-stays shift (shift_amount y.value) i h parts.1 j)

  undef-less : Within 32 (Undef.undef_less x y) (Undef.undef_less (under x u) (under y w))
  unfolding Undef.undef_less
  undef-less =
      within-words _ _ (λ i h e.
      elim (and_cases (i == 0) (any_is_undefined x y) e) [
        | inl above ↦ λ j. above j && any_is_undefined (under x u) (under y w)
        | inr none ↦ (λ j. (i == 0) && any none j) ∙ and-false (i == 0)
      ])

  undef-wide : Within 32 (Undef.undef_wide x y) (Undef.undef_wide (under x u) (under y w))
  unfolding Undef.undef_wide
  undef-wide = within-words _ _ (λ i h e. any e)

  pub undef-of-within : (operation : Operation)
      → Within 32 (undef_of operation x y) (undef_of operation (under x u) (under y w))
  unfolding undef_of
  undef-of-within Add = undef-add
  undef-of-within Sub = undef-sub
  undef-of-within ShiftLeft = undef-shift Left
  undef-of-within SetLess = undef-less
  undef-of-within SetLessUnsigned = undef-less
  undef-of-within Xor = undef-xor
  undef-of-within ShiftRight = undef-shift Right
  undef-of-within ShiftArith = undef-shift Arith
  undef-of-within Or = undef-or
  undef-of-within And = undef-and
  undef-of-within Mul = undef-mul
  undef-of-within MulHigh = undef-wide
  undef-of-within MulHighSignedUnsigned = undef-wide
  undef-of-within MulHighUnsigned = undef-wide
  undef-of-within Div = undef-wide
  undef-of-within DivUnsigned = undef-wide
  undef-of-within Rem = undef-wide
  undef-of-within RemUnsigned = undef-wide

  -- a comparison that is decided stays so
  differ-stays : (i : ℕ) → i < 32 → defined_bits_differ x y i ≡ true
      → defined_bits_differ (under x u) (under y w) i ≡ true
  differ-stays i h e =
      let parts =
      and_parts (differ (bit_is_set x.value i) (bit_is_set y.value i)) (not (either_is_undefined x y i)) e in
      λ j. parts.0 j && not (either i h (not-true (either_is_undefined x y i) parts.1) j)

  equal-stays : Undef.undef_equal x y ≡ false → Undef.undef_equal (under x u) (under y w) ≡ false
  unfolding Undef.undef_equal
  equal-stays e =
      elim (and_cases (any_is_undefined x y) (not (some_below (defined_bits_differ x y) 32)) e) [
        | inl none ↦ λ j. any none j && not (some_below (defined_bits_differ (under x u) (under y w)) 32)
        | inr some ↦
            (λ j. any_is_undefined (under x u) (under y w) && not (some-stays (defined_bits_differ x y)
            (defined_bits_differ (under x u) (under y w)) 32 (omega arith) (λ i h. differ-stays i h)
            (not-false (some_below (defined_bits_differ x y) 32) some) j))
            ∙ and-false (any_is_undefined (under x u) (under y w))
      ]
    where
      some-stays : (p q : ℕ → Bool) (k : ℕ) → k ≤ 32 → ((i : ℕ) → i < 32 → p i ≡ true → q i ≡ true)
          → some_below p k ≡ true → some_below q k ≡ true
      some-stays p q zero few each e = e
      some-stays p q (suc k) few each e =
          elim (or_cases (p k) (some_below p k) e) [
            | inl here ↦ λ j. each k (omega arith) here j || some_below q k
            | inr rest ↦ (λ j. q k || some-stays p q k (omega arith) each rest j) ∙ or-true (q k)
          ]
        where
          or-true : (p : Bool) → (p || true) ≡ true
          or-true true = refl
          or-true false = refl

  pub decided-stays : (test : Comparison) → is_undecided test x y ≡ false
      → is_undecided test (under x u) (under y w) ≡ false
  unfolding is_undecided Undef.undef_branch
  decided-stays Equal e = equal-stays e
  decided-stays NotEqual e = equal-stays e
  decided-stays Less e = any e
  decided-stays GreaterEqual e = any e
  decided-stays LessUnsigned e = any e
  decided-stays GreaterEqualUnsigned e = any e

small-undef : (operation : Operation) (x y : Bits) → undef_of operation x y < 2 ^ 32
unfolding undef_of Undef.undef_add Undef.undef_sub Undef.undef_shift Undef.undef_less Undef.undef_xor Undef.undef_or
    Undef.undef_and Undef.undef_mul Undef.undef_wide
small-undef Add x y = word_of_lt _
small-undef Sub x y = word_of_lt _
small-undef ShiftLeft x y = word_of_lt _
small-undef SetLess x y = word_of_lt _
small-undef SetLessUnsigned x y = word_of_lt _
small-undef Xor x y = word_of_lt _
small-undef ShiftRight x y = word_of_lt _
small-undef ShiftArith x y = word_of_lt _
small-undef Or x y = word_of_lt _
small-undef And x y = word_of_lt _
small-undef Mul x y = word_of_lt _
small-undef MulHigh x y = word_of_lt _
small-undef MulHighSignedUnsigned x y = word_of_lt _
small-undef MulHighUnsigned x y = word_of_lt _
small-undef Div x y = word_of_lt _
small-undef DivUnsigned x y = word_of_lt _
small-undef Rem x y = word_of_lt _
small-undef RemUnsigned x y = word_of_lt _

pub computed-sharper : ComputedSharper
unfolding computed
computed-sharper operation x y u v a b =
    subst₂ (λ m n. Sharper (computed operation x y)
    (computed operation (record { value = m; undef = u.undef }) (record { value = n; undef = v.undef })))
    a.value b.value
    (record {
      value = refl;
      undef = undef-of-within x y u.undef v.undef a.undef b.undef operation;
      small = small-undef operation _ _;
    })

pub undecided-sharper : (test : Comparison) (x y u v : Bits) → Sharper x u → Sharper y v
    → is_undecided test x y ≡ false → is_undecided test u v ≡ false
undecided-sharper test x y u v a b e =
    subst₂ (λ m n. is_undecided test (record { value = m; undef = u.undef }) (record { value = n; undef = v.undef })
    ≡ false) a.value b.value (decided-stays x y u.undef v.undef a.undef b.undef test e)

-- all bits, if any is undefined
pub wide-sharper : (x y u v : Bits) → Sharper x u → Sharper y v
    → Within 32 (Undef.undef_wide x y) (Undef.undef_wide u v) × (Undef.undef_wide u v < 2 ^ 32)
unfolding Undef.undef_wide
wide-sharper x y u v a b = (
  subst₂ (λ m n. Within 32 (Undef.undef_wide x y)
      (Undef.undef_wide (record { value = m; undef = u.undef }) (record { value = n; undef = v.undef })))
      a.value b.value
      (undef-wide x y u.undef v.undef a.undef b.undef),
  word_of_lt _,
)
