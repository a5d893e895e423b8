-- Each of the 18 operations on two words gives a word.
use Rattle.std.proofs.Common.{◌≡◌, ℕ, zero, suc, ◌+◌, ◌-◌, ◌*◌, ◌/◌, ◌%◌, ◌^◌, ◌<◌, ◌≤◌, Bool, true, false, cond, refl}
use Rattle.std.proofs.Common.{arith, ltb, ltb-true, ltb-false, mul-le-mul, div-le_self, ◌==◌, rules}
use Rattle.std.proofs.lemmas.Nat.{mod_below, or_lt, xor_lt, and_le_l}
use Rattle.std.proofs.lemmas.Int.{unsigned_abs-mul}
use Rattle.std.specs.Int.{w32, cast_unsigned}
use lib.IntN.{ℤ, pos, negsuc, ◌*ℤ◌, neg_ℤ, nat_abs}
use lib.Signed.{mag, mag_rem, nat_abs-le, quot_z, rem_z}
use Rattle.definedness.specs.declared.Shift.TheVariants.{Left, Right, Arith}
use Rattle.definedness.specs.Operations as Value
use Rattle.definedness.specs.Operations.{signed_value, upper_word, all_ones}
use Rattle.definedness.proofs.Shifts.{shift_of_lt}
use Rattle.instructions.specs.Alu.{value_of, number_of}
use Rattle.instructions.specs.declared.instruction.Operation.{Operation}
use Rattle.instructions.specs.declared.instruction.Operation.TheVariants.{Add, Sub, ShiftLeft, SetLess}
use Rattle.instructions.specs.declared.instruction.Operation.TheVariants.{SetLessUnsigned, Xor, ShiftRight, ShiftArith}
use Rattle.instructions.specs.declared.instruction.Operation.TheVariants.{Or, And, Mul, MulHigh, MulHighSignedUnsigned}
use Rattle.instructions.specs.declared.instruction.Operation.TheVariants.{MulHighUnsigned, Div, DivUnsigned, Rem}
use Rattle.instructions.specs.declared.instruction.Operation.TheVariants.{RemUnsigned}

near-by : (b : Bool) (a : ℕ) → ltb a (2 ^ 31) ≡ b → a < 2 ^ 32 → mag (cond b (pos a) (negsuc (2 ^ 32 - suc a))) < 2 ^ 31
near-by true a e h = ltb-true a (2 ^ 31) e
near-by false a e h = let far = ltb-false a (2 ^ 31) e in omega arith

near : (a : ℕ) → a < 2 ^ 32 → mag (signed_value a) < 2 ^ 31
near a h = near-by (ltb a (2 ^ 31)) a refl h

near-abs : (a : ℕ) → a < 2 ^ 32 → nat_abs (signed_value a) ≤ 2 ^ 31
near-abs a h = nat_abs-le (signed_value a) (near a h)

unsigned-32 : (z : ℤ) → nat_abs z ≤ 2 ^ 31 → cast_unsigned w32 z < 2 ^ 32
unsigned-32 (pos n) h = omega arith
unsigned-32 (negsuc n) h = omega arith

upper-lt : (z : ℤ) → nat_abs z < 2 ^ 64 → upper_word z < 2 ^ 32
upper-lt (pos n) h = omega arith
upper-lt (negsuc n) h = omega arith

abs-neg : (n : ℕ) → nat_abs (neg_ℤ (pos n)) ≡ n
abs-neg zero = refl
abs-neg (suc n) = refl

quot-le : (x y : ℤ) → nat_abs (quot_z x y) ≤ nat_abs x
quot-le (pos a) (pos b) = div-le_self a b
quot-le (pos a) (negsuc b) = let e = abs-neg (a / suc b) in let l = div-le_self a (suc b) in omega arith
quot-le (negsuc a) (pos b) = let e = abs-neg (suc a / b) in let l = div-le_self (suc a) b in omega arith
quot-le (negsuc a) (negsuc b) = div-le_self (suc a) (suc b)

product : (a b : ℤ) (m n : ℕ) → nat_abs a ≤ m → nat_abs b ≤ n → m * n < 2 ^ 64 → upper_word (a *ℤ b) < 2 ^ 32
product a b m n p q h =
    let l = mul-le-mul p q in
    let e = unsigned_abs-mul a b in
    upper-lt (a *ℤ b) (omega arith)

number-lt : (b : Bool) → number_of b < 2 ^ 32
number-lt true = omega arith
number-lt false = omega arith

chosen-lt : (b : Bool) (m n : ℕ) → m < 2 ^ 32 → n < 2 ^ 32 → cond b m n < 2 ^ 32
chosen-lt true m n p q = p
chosen-lt false m n p q = q

pub value-lt : (operation : Operation) (a b : ℕ) → a < 2 ^ 32 → b < 2 ^ 32 → value_of operation a b < 2 ^ 32
unfolding value_of Value.add_of Value.sub_of Value.mul_of Value.and_of Value.or_of Value.xor_of Value.mulh_of
    Value.mulhsu_of
    Value.mulhu_of Value.div_of Value.divu_of Value.rem_of Value.remu_of
value-lt Add a b p q = mod_below (a + b) (2 ^ 32) (omega arith)
value-lt Sub a b p q = mod_below (a + (2 ^ 32 - b)) (2 ^ 32) (omega arith)
value-lt ShiftLeft a b p q = shift_of_lt Left a b p
value-lt SetLess a b p q = number-lt (Value.less_signed a b)
value-lt SetLessUnsigned a b p q = number-lt (Value.less_unsigned a b)
value-lt Xor a b p q = xor_lt 32 a b p q
value-lt ShiftRight a b p q = shift_of_lt Right a b p
value-lt ShiftArith a b p q = shift_of_lt Arith a b p
value-lt Or a b p q = or_lt 32 a b p q
value-lt And a b p q = let l = and_le_l a b in omega arith
value-lt Mul a b p q = mod_below (a * b) (2 ^ 32) (omega arith)
value-lt MulHigh a b p q =
    product (signed_value a) (signed_value b) (2 ^ 31) (2 ^ 31) (near-abs a p) (near-abs b q) (omega arith)
value-lt MulHighSignedUnsigned a b p q =
    product (signed_value a) (pos b) (2 ^ 31) (2 ^ 32 - 1) (near-abs a p) (omega arith) (omega arith)
value-lt MulHighUnsigned a b p q =
    product (pos a) (pos b) (2 ^ 32 - 1) (2 ^ 32 - 1) (omega arith) (omega arith) (omega arith)
value-lt Div a b p q =
    chosen-lt (b == 0) all_ones (cast_unsigned w32 (quot_z (signed_value a) (signed_value b))) (omega arith)
    (unsigned-32 (quot_z (signed_value a) (signed_value b))
    (let l = quot-le (signed_value a) (signed_value b) in let n = near-abs a p in omega arith))
value-lt DivUnsigned a b p q = chosen-lt (b == 0) all_ones (a / b) (omega arith)
    (let l = div-le_self a b in omega arith)
value-lt Rem a b p q =
    chosen-lt (b == 0) a (cast_unsigned w32 (rem_z (signed_value a) (signed_value b))) p
    (unsigned-32 (rem_z (signed_value a) (signed_value b)) (nat_abs-le (rem_z (signed_value a) (signed_value b))
    (let l = mag_rem (signed_value a) (signed_value b) in let n = near a p in omega arith)))
value-lt RemUnsigned a b p q =
    chosen-lt (b == 0) a (a % b) p (let l = mod-less a b in omega arith)
  where
    mod-less : (a b : ℕ) → a % b ≤ a
    mod-less a b = search rules
