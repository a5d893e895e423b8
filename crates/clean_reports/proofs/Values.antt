-- Operations on values that agree: the results agree, and have the same undefined bits.
use Rattle.std.proofs.Common.{◌≡◌, ℕ, ◌%◌, ◌^◌, ◌<◌, ◌||◌, ◌&&◌, not, Bool, true}
use Rattle.std.proofs.Common.{false, cond, refl, sym, ap, ap₂, ◌∙◌, arith}
use Rattle.std.specs.Int.{bit_at}
use Rattle.std.proofs.lemmas.Nat.Bits.{same_from_bits_below, bit_at_above}
use Rattle.definedness.specs.declared.Bits.{Bits}
use Rattle.definedness.specs.declared.Shift.{Shift}
use Rattle.definedness.specs.declared.Shift.TheVariants.{Left, Right, Arith}
use Rattle.definedness.specs.Law.{AgreeWhereDefined, KeepsAgreement}
use Rattle.definedness.specs.Operations as Value
use Rattle.definedness.specs.Operations.{flag_word}
use Rattle.definedness.specs.Undefined as Undef
use Rattle.definedness.specs.Undefined.{bit_is_set, some_below, word_of, either_is_undefined, is_defined_zero}
use Rattle.definedness.specs.Undefined.{is_defined_one}
use Rattle.definedness.specs.Undefined.{filled_bit_is_set, least_value, greatest_value, moved_bit_is_set}
use Rattle.definedness.specs.Undefined.{amount_is_undefined}
use Rattle.definedness.specs.Undefined.{and_is_undefined, or_is_undefined, shift_is_undefined, defined_bits_differ}
use Rattle.definedness.specs.Undefined.{differ}
use Rattle.definedness.proofs.Words.{word_from_bits, word_of_lt, bit_at_word_of, is_set_same, clear_at, none_below}
use Rattle.definedness.proofs.Words.{low_from_bits, some_below_same}
use Rattle.definedness.proofs.Laws.{xor_law, and_law, or_law, mul_law, wide_law, less_law, branch_law}
use Rattle.definedness.proofs.Carries.{add_law, sub_law}
use Rattle.definedness.proofs.Equality.{equal_law}
use Rattle.definedness.proofs.Shifts.{shift_law}
use Rattle.guest_machine.specs.Registers.{known}
use Rattle.instructions.specs.Alu.{computed, value_of, undef_of, passes, is_undecided}
use Rattle.instructions.specs.declared.instruction.Comparison.{Comparison}
use Rattle.instructions.specs.declared.instruction.Comparison.TheVariants.{Equal, NotEqual, Less, GreaterEqual}
use Rattle.instructions.specs.declared.instruction.Comparison.TheVariants.{LessUnsigned, GreaterEqualUnsigned}
use Rattle.instructions.specs.declared.instruction.Operation.{Operation}
use Rattle.instructions.specs.declared.instruction.Operation.TheVariants.{Add, Sub, ShiftLeft, SetLess}
use Rattle.instructions.specs.declared.instruction.Operation.TheVariants.{SetLessUnsigned, Xor, ShiftRight, ShiftArith}
use Rattle.instructions.specs.declared.instruction.Operation.TheVariants.{Or, And, Mul, MulHigh, MulHighSignedUnsigned}
use Rattle.instructions.specs.declared.instruction.Operation.TheVariants.{MulHighUnsigned, Div, DivUnsigned, Rem}
use Rattle.instructions.specs.declared.instruction.Operation.TheVariants.{RemUnsigned}
use Rattle.clean_reports.specs.Agreement.{ValuesAgree}
use Rattle.clean_reports.proofs.Words.{value-lt}

zero-bit : (i : ℕ) → bit_at 0 i ≡ 0
zero-bit i = bit_at_above 0 0 i (omega arith) (omega arith)

-- values that agree and have no undefined bit are equal
pub same-value : (x y : Bits) → ValuesAgree x y → x.undef ≡ 0 → x.value ≡ y.value
same-value x y a none =
    same_from_bits_below 32 x.value y.value a.one a.other
    (λ i h. a.value i h (ap (λ n. bit_at n i) none ∙ zero-bit i))

pub same-bits : (x y : Bits) → ValuesAgree x y → x.undef ≡ 0 → x ≡ y
same-bits x y a none = λ i. record { value = same-value x y a none i; undef = a.undef i }

pub known-agrees : (n : ℕ) → n < 2 ^ 32 → ValuesAgree (known n) (known n)
known-agrees n h = record { undef = refl; value = λ i l e. refl; one = h; other = h }

-- undefined bits of a result don't depend on undefined bits of operands --

same-word : (p q : ℕ → Bool) → ((i : ℕ) → i < 32 → p i ≡ q i) → word_of p ≡ word_of q
same-word p q same =
    word_from_bits (word_of p) q (word_of_lt p) (λ i h. bit_at_word_of p i h ∙ ap flag_word (same i h))

-- a value with the undefined bits of x
abbrev with : Bits → ℕ → Bits
with x v = record { value = v; undef = x.undef }

-- two values have the same bit where it is defined
defined-bit : (x : Bits) (v i : ℕ) → AgreeWhereDefined x.undef x.value v → i < 32 → bit_is_set x.undef i ≡ false
    → bit_is_set x.value i ≡ bit_is_set v i
defined-bit x v i a h e = is_set_same x.value v i (a i h (clear_at x.undef i e))

-- a test of a value that only counts where the bit is defined
guarded : (b p q : Bool) → (b ≡ false → p ≡ q) → (not b && p) ≡ (not b && q)
guarded true p q e = refl
guarded false p q e = e refl

zero-same : (x : Bits) (v i : ℕ) → AgreeWhereDefined x.undef x.value v → i < 32
    → is_defined_zero x i ≡ is_defined_zero (with x v) i
zero-same x v i a h =
    guarded (bit_is_set x.undef i) (not (bit_is_set x.value i)) (not (bit_is_set v i))
    (λ e. ap not (defined-bit x v i a h e))

one-same : (x : Bits) (v i : ℕ) → AgreeWhereDefined x.undef x.value v → i < 32
    → is_defined_one x i ≡ is_defined_one (with x v) i
one-same x v i a h =
    guarded (bit_is_set x.undef i) (bit_is_set x.value i) (bit_is_set v i) (λ e. defined-bit x v i a h e)

filled-same : (fill : Bool) (x : Bits) (v i : ℕ) → AgreeWhereDefined x.undef x.value v → i < 32
    → filled_bit_is_set fill x i ≡ filled_bit_is_set fill (with x v) i
filled-same fill x v i a h =
    go (bit_is_set x.undef i) (bit_is_set x.value i) (bit_is_set v i) (λ e. defined-bit x v i a h e)
  where
    go : (b p q : Bool) → (b ≡ false → p ≡ q) → cond b fill p ≡ cond b fill q
    go true p q e = refl
    go false p q e = e refl

least-same : (x : Bits) (v : ℕ) → AgreeWhereDefined x.undef x.value v → least_value x ≡ least_value (with x v)
unfolding least_value
least-same x v a = same-word (filled_bit_is_set false x) (filled_bit_is_set false (with x v))
    (λ i h. filled-same false x v i a h)

greatest-same : (x : Bits) (v : ℕ) → AgreeWhereDefined x.undef x.value v → greatest_value x ≡ greatest_value (with x v)
unfolding greatest_value
greatest-same x v a = same-word (filled_bit_is_set true x) (filled_bit_is_set true (with x v))
    (λ i h. filled-same true x v i a h)

module _ (x y : Bits) (v w : ℕ) (a : AgreeWhereDefined x.undef x.value v)
    (b : AgreeWhereDefined y.undef y.value w) where
  undef-and : Undef.undef_and x y ≡ Undef.undef_and (with x v) (with y w)
  unfolding Undef.undef_and
  undef-and =
      same-word (and_is_undefined x y) (and_is_undefined (with x v) (with y w))
      (λ i h. ap₂ (λ p q. either_is_undefined x y i && not (p || q)) (zero-same x v i a h) (zero-same y w i b h))

  undef-or : Undef.undef_or x y ≡ Undef.undef_or (with x v) (with y w)
  unfolding Undef.undef_or
  undef-or =
      same-word (or_is_undefined x y) (or_is_undefined (with x v) (with y w))
      (λ i h. ap₂ (λ p q. either_is_undefined x y i && not (p || q)) (one-same x v i a h) (one-same y w i b h))

  undef-add : Undef.undef_add x y ≡ Undef.undef_add (with x v) (with y w)
  unfolding Undef.undef_add
  undef-add = λ j. word_of (λ i. either_is_undefined x y i
      || differ (Undef.carries_into (least-same x v a j) (least-same y w b j) i)
      (Undef.carries_into (greatest-same x v a j) (greatest-same y w b j) i))

  undef-sub : Undef.undef_sub x y ≡ Undef.undef_sub (with x v) (with y w)
  unfolding Undef.undef_sub
  undef-sub = λ j. word_of (λ i. either_is_undefined x y i
      || differ (Undef.borrows_into (least-same x v a j) (greatest-same y w b j) i)
      (Undef.borrows_into (greatest-same x v a j) (least-same y w b j) i))

  undef-shift : (shift : Shift) → Undef.undef_shift shift x y ≡ Undef.undef_shift shift (with x v) (with y w)
  unfolding Undef.undef_shift
  undef-shift shift =
      same-word (shift_is_undefined shift x y) (shift_is_undefined shift (with x v) (with y w))
      (λ i h. go (amount_is_undefined y) (λ e. ap (λ k. moved_bit_is_set shift x.undef k i) (amount e)))
    where
      amount : amount_is_undefined y ≡ false → y.value % 2 ^ 5 ≡ w % 2 ^ 5
      amount e =
          low_from_bits y.value w 5
          (λ j h. b j (omega arith) (clear_at y.undef j (none_below (bit_is_set y.undef) 5 e j h)))

      go : (c : Bool) {p q : Bool} → (c ≡ false → p ≡ q) → (c || p) ≡ (c || q)
      go true e = refl
      go false e = e refl

  differ-same : (i : ℕ) → i < 32 → defined_bits_differ x y i ≡ defined_bits_differ (with x v) (with y w) i
  differ-same i h =
      go (bit_is_set x.undef i) (bit_is_set y.undef i) (λ e. defined-bit x v i a h e) (λ e. defined-bit y w i b h e)
    where
      go : (p q : Bool) {k l m n : Bool} → (p ≡ false → k ≡ l) → (q ≡ false → m ≡ n)
          → (differ k m && not (p || q)) ≡ (differ l n && not (p || q))
      go true q {k} {l} {m} {n} e f = none (differ k m) ∙ sym (none (differ l n))
        where
          none : (c : Bool) → (c && false) ≡ false
          none true = refl
          none false = refl
      go false true {k} {l} {m} {n} e f = none (differ k m) ∙ sym (none (differ l n))
        where
          none : (c : Bool) → (c && false) ≡ false
          none true = refl
          none false = refl
      go false false e f = ap₂ (λ k m. differ k m && true) (e refl) (f refl)

  undef-equal : Undef.undef_equal x y ≡ Undef.undef_equal (with x v) (with y w)
  unfolding Undef.undef_equal
  undef-equal =
      ap (λ c. Undef.any_is_undefined x y && not c)
      (some_below_same (defined_bits_differ x y) (defined_bits_differ (with x v) (with y w)) 32
      (λ i h. differ-same i h))

  undef-of : (operation : Operation) → undef_of operation x y ≡ undef_of operation (with x v) (with y w)
  unfolding undef_of Undef.undef_xor Undef.undef_mul Undef.undef_less Undef.undef_wide
  undef-of Add = undef-add
  undef-of Sub = undef-sub
  undef-of ShiftLeft = undef-shift Left
  undef-of SetLess = refl
  undef-of SetLessUnsigned = refl
  undef-of Xor = refl
  undef-of ShiftRight = undef-shift Right
  undef-of ShiftArith = undef-shift Arith
  undef-of Or = undef-or
  undef-of And = undef-and
  undef-of Mul = refl
  undef-of MulHigh = refl
  undef-of MulHighSignedUnsigned = refl
  undef-of MulHighUnsigned = refl
  undef-of Div = refl
  undef-of DivUnsigned = refl
  undef-of Rem = refl
  undef-of RemUnsigned = refl

  undecided-same : (test : Comparison) → is_undecided test x y ≡ is_undecided test (with x v) (with y w)
  unfolding is_undecided Undef.undef_branch
  undecided-same Equal = undef-equal
  undecided-same NotEqual = undef-equal
  undecided-same Less = refl
  undecided-same GreaterEqual = refl
  undecided-same LessUnsigned = refl
  undecided-same GreaterEqualUnsigned = refl

-- the law of crate definedness, for each operation
keeps : (operation : Operation) (x y : Bits) → x.value < 2 ^ 32 → y.value < 2 ^ 32
    → KeepsAgreement (value_of operation) x y (undef_of operation x y)
unfolding value_of undef_of
keeps Add x y p q = add_law x y _ q refl
keeps Sub x y p q = sub_law x y _ q refl
keeps ShiftLeft x y p q = shift_law Left x y _ p refl
keeps SetLess x y p q = less_law Value.less_signed x y _ p q refl
keeps SetLessUnsigned x y p q = less_law Value.less_unsigned x y _ p q refl
keeps Xor x y p q = xor_law x y _ refl
keeps ShiftRight x y p q = shift_law Right x y _ p refl
keeps ShiftArith x y p q = shift_law Arith x y _ p refl
keeps Or x y p q = or_law x y _ refl
keeps And x y p q = and_law x y _ refl
keeps Mul x y p q = mul_law x y _ refl
keeps MulHigh x y p q = wide_law Value.mulh_of x y _ p q refl
keeps MulHighSignedUnsigned x y p q = wide_law Value.mulhsu_of x y _ p q refl
keeps MulHighUnsigned x y p q = wide_law Value.mulhu_of x y _ p q refl
keeps Div x y p q = wide_law Value.div_of x y _ p q refl
keeps DivUnsigned x y p q = wide_law Value.divu_of x y _ p q refl
keeps Rem x y p q = wide_law Value.rem_of x y _ p q refl
keeps RemUnsigned x y p q = wide_law Value.remu_of x y _ p q refl

pub computed-agree : (operation : Operation) (x y u v : Bits) → ValuesAgree x u → ValuesAgree y v
    → ValuesAgree (computed operation x y) (computed operation u v)
unfolding computed
computed-agree operation x y u v a b = record {
  undef = undef-of x y u.value v.value a.value b.value operation
      ∙ (λ i. undef_of operation (record { value = u.value; undef = a.undef i }) (record {
        value = v.value;
        undef = b.undef i;
      }));
  value = keeps operation x y a.one b.one u.value v.value a.other b.other a.value b.value;
  one = value-lt operation x.value y.value a.one b.one;
  other = value-lt operation u.value v.value a.other b.other;
}

pub undecided-agree : (test : Comparison) (x y u v : Bits) → ValuesAgree x u → ValuesAgree y v
    → is_undecided test x y ≡ is_undecided test u v
undecided-agree test x y u v a b =
    undecided-same x y u.value v.value a.value b.value test
    ∙ (λ i. is_undecided test (record { value = u.value; undef = a.undef i }) (record {
      value = v.value;
      undef = b.undef i;
    }))

-- a branch that is decided does the same
pub passes-agree : (test : Comparison) (x y u v : Bits) → ValuesAgree x u → ValuesAgree y v
    → is_undecided test x y ≡ false → passes test x.value y.value ≡ passes test u.value v.value
unfolding passes is_undecided
passes-agree Equal x y u v a b e = equal_law x y a.one b.one e u.value v.value a.other b.other a.value b.value
passes-agree NotEqual x y u v a b e = ap not
    (equal_law x y a.one b.one e u.value v.value a.other b.other a.value b.value)
passes-agree Less x y u v a b e =
    branch_law Value.less_signed x y a.one b.one e u.value v.value a.other b.other a.value b.value
passes-agree GreaterEqual x y u v a b e =
    ap not (branch_law Value.less_signed x y a.one b.one e u.value v.value a.other b.other a.value b.value)
passes-agree LessUnsigned x y u v a b e =
    branch_law Value.less_unsigned x y a.one b.one e u.value v.value a.other b.other a.value b.value
passes-agree GreaterEqualUnsigned x y u v a b e =
    ap not (branch_law Value.less_unsigned x y a.one b.one e u.value v.value a.other b.other a.value b.value)
