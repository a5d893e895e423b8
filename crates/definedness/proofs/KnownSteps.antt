-- Operands without undefined bits: no test for undefined bits of a result holds at any bit of a word.
use Rattle.std.proofs.Common.{◌≡◌, ℕ, suc, ◌+◌, ◌-◌, ◌<◌, ◌||◌, ◌&&◌, not, min, Bool, true, false, eqb, refl, sym, ap}
use Rattle.std.proofs.Common.{ap₂, ◌∙◌, arith}
use Rattle.std.specs.Prelude.{nat_le, nat_lt}
use Rattle.std.specs.Int.{bit_at}
use Rattle.std.proofs.lemmas.Bool.{and_left}
use Rattle.std.proofs.lemmas.Nat.Bits.{bit_at-zero}
use Rattle.definedness.specs.declared.Bits.{Bits}
use Rattle.definedness.specs.declared.Shift.{Shift}
use Rattle.definedness.specs.declared.Shift.TheVariants.{Left, Right, Arith}
use Rattle.definedness.specs.Operations.{shift_amount}
use Rattle.definedness.specs.Undefined.{bit_is_set, word_of, differ, either_is_undefined, any_is_undefined}
use Rattle.definedness.specs.Undefined.{filled_bit_is_set, least_value, greatest_value, carries_into, borrows_into}
use Rattle.definedness.specs.Undefined.{moved_bit_is_set, add_is_undefined, sub_is_undefined}
use Rattle.definedness.specs.Undefined.{mul_is_undefined, and_is_undefined, or_is_undefined, xor_is_undefined}
use Rattle.definedness.specs.Undefined.{shift_is_undefined, less_is_undefined, wide_is_undefined, is_defined_zero}
use Rattle.definedness.specs.Undefined.{is_defined_one}
use Rattle.definedness.specs.Undefined.{undef_add, undef_sub, undef_mul, undef_and, undef_or, undef_xor, undef_shift}
use Rattle.definedness.specs.Undefined.{undef_less, undef_wide}
use Rattle.definedness.proofs.Words.{clear_from, is_set_from, none_from}
use Rattle.definedness.proofs.Masks.{word_from_tests}
use Rattle.definedness.proofs.Carries.{filled_bit, least_lt, least_bit}

-- a test that holds at no bit of a word makes the word 0
none_set : (p : ℕ → Bool) → ((i : ℕ) → i < 32 → p i ≡ false) → word_of p ≡ 0
none_set p never =
    sym (word_from_tests 0 p (omega arith) (λ i h. clear_from 0 i (bit_at-zero i) ∙ sym (never i h)))

-- no bit of an operand is undefined
clear : (x : Bits) → x.undef ≡ 0 → (i : ℕ) → bit_is_set x.undef i ≡ false
clear x none i = clear_from x.undef i (ap (λ v. bit_at v i) none ∙ bit_at-zero i)

pub none_in_either : (x y : Bits) → x.undef ≡ 0 → y.undef ≡ 0 → (i : ℕ) → either_is_undefined x y i ≡ false
none_in_either x y none_x none_y i = ap₂ (λ u v. u || v) (clear x none_x i) (clear y none_y i)

none_in_any : (x y : Bits) → x.undef ≡ 0 → y.undef ≡ 0 → any_is_undefined x y ≡ false
none_in_any x y none_x none_y =
    none_from (either_is_undefined x y) 32 (λ i h. none_in_either x y none_x none_y i)

-- the two ends are one
one_end : (x : Bits) → x.undef ≡ 0 → least_value x ≡ greatest_value x
unfolding greatest_value
one_end x none =
    word_from_tests (least_value x) (filled_bit_is_set true x) (least_lt x)
    (λ i h. is_set_from (least_value x) i (filled_bit_is_set false x i) (least_bit x i h)
    ∙ filled_bit false x i (clear x none i) ∙ sym (filled_bit true x i (clear x none i)))

same_do_not_differ : (p q : Bool) → p ≡ q → differ p q ≡ false
same_do_not_differ true q e = ap not (sym e)
same_do_not_differ false q e = sym e

pub add_known : (x y : Bits) → x.undef ≡ 0 → y.undef ≡ 0 → undef_add x y ≡ 0
unfolding undef_add
add_known x y none_x none_y =
    none_set (add_is_undefined x y) (λ i h.
    ap₂ (λ u v. u || v) (none_in_either x y none_x none_y i)
    (same_do_not_differ (carries_into (least_value x) (least_value y) i)
    (carries_into (greatest_value x) (greatest_value y) i)
    (ap₂ (λ a b. carries_into a b i) (one_end x none_x) (one_end y none_y))))

pub sub_known : (x y : Bits) → x.undef ≡ 0 → y.undef ≡ 0 → undef_sub x y ≡ 0
unfolding undef_sub
sub_known x y none_x none_y =
    none_set (sub_is_undefined x y) (λ i h.
    ap₂ (λ u v. u || v) (none_in_either x y none_x none_y i)
    (same_do_not_differ (borrows_into (least_value x) (greatest_value y) i)
    (borrows_into (greatest_value x) (least_value y) i)
    (ap₂ (λ a b. borrows_into a b i) (one_end x none_x) (sym (one_end y none_y)))))

pub mul_known : (x y : Bits) → x.undef ≡ 0 → y.undef ≡ 0 → undef_mul x y ≡ 0
unfolding undef_mul
mul_known x y none_x none_y =
    none_set (mul_is_undefined x y) (λ i h.
    none_from (either_is_undefined x y) (suc i) (λ j l. none_in_either x y none_x none_y j))

pub and_known : (x y : Bits) → x.undef ≡ 0 → y.undef ≡ 0 → undef_and x y ≡ 0
unfolding undef_and
and_known x y none_x none_y =
    none_set (and_is_undefined x y) (λ i h.
    and_left (either_is_undefined x y i) (not (is_defined_zero x i || is_defined_zero y i))
    (none_in_either x y none_x none_y i))

pub or_known : (x y : Bits) → x.undef ≡ 0 → y.undef ≡ 0 → undef_or x y ≡ 0
unfolding undef_or
or_known x y none_x none_y =
    none_set (or_is_undefined x y) (λ i h.
    and_left (either_is_undefined x y i) (not (is_defined_one x i || is_defined_one y i))
    (none_in_either x y none_x none_y i))

pub xor_known : (x y : Bits) → x.undef ≡ 0 → y.undef ≡ 0 → undef_xor x y ≡ 0
unfolding undef_xor
xor_known x y none_x none_y = none_set (xor_is_undefined x y) (λ i h. none_in_either x y none_x none_y i)

and_right : (p q : Bool) → q ≡ false → (p && q) ≡ false
and_right true q e = e
and_right false q e = refl

-- a bit that moves is none of those that are set
none_moves : (shift : Shift) (v k : ℕ) → ((j : ℕ) → bit_is_set v j ≡ false) → (i : ℕ)
    → moved_bit_is_set shift v k i ≡ false
none_moves Left v k none i = and_right (nat_le k i) (bit_is_set v (i - k)) (none (i - k))
none_moves Right v k none i = and_right (nat_lt (i + k) 32) (bit_is_set v (i + k)) (none (i + k))
none_moves Arith v k none i = none (min (i + k) 31)

pub shift_known : (x y : Bits) → x.undef ≡ 0 → y.undef ≡ 0 → (shift : Shift) → undef_shift shift x y ≡ 0
unfolding undef_shift
shift_known x y none_x none_y shift =
    none_set (shift_is_undefined shift x y) (λ i h.
    ap₂ (λ u v. u || v) (none_from (bit_is_set y.undef) 5 (λ j l. clear y none_y j))
    (none_moves shift x.undef (shift_amount y.value) (clear x none_x) i))

pub less_known : (x y : Bits) → x.undef ≡ 0 → y.undef ≡ 0 → undef_less x y ≡ 0
unfolding undef_less
less_known x y none_x none_y =
    none_set (less_is_undefined x y) (λ i h.
    and_right (eqb i 0) (any_is_undefined x y) (none_in_any x y none_x none_y))

pub wide_known : (x y : Bits) → x.undef ≡ 0 → y.undef ≡ 0 → undef_wide x y ≡ 0
unfolding undef_wide
wide_known x y none_x none_y = none_set (wide_is_undefined x y) (λ i h. none_in_any x y none_x none_y)
