-- What an instruction computes from two numbers, with the undefined bits of the result; what a branch compares; and the
-- sign extension of a loaded number.
use Rattle.std.specs.Prelude.{ℕ, ◌+◌, ◌-◌, ◌*◌, ◌^◌, ◌==◌, nat_lt, not, Bool, true, false, if◌then◌else◌}
use Rattle.definedness.specs.declared.Bits.{Bits}
use Rattle.definedness.specs.declared.Shift.TheVariants.{Left, Right, Arith}
use Rattle.definedness.specs.Operations as Value
use Rattle.definedness.specs.Undefined as Undef
use Rattle.instructions.specs.Widths.{width_len}
use Rattle.instructions.specs.declared.width.Width.{Width}
use Rattle.instructions.specs.declared.instruction.Comparison.{Comparison}
use Rattle.instructions.specs.declared.instruction.Comparison.TheVariants.{Equal, NotEqual, Less, GreaterEqual}
use Rattle.instructions.specs.declared.instruction.Comparison.TheVariants.{LessUnsigned, GreaterEqualUnsigned}
use Rattle.instructions.specs.declared.instruction.Operation.{Operation}
use Rattle.instructions.specs.declared.instruction.Operation.TheVariants.{Add, Sub, ShiftLeft, SetLess}
use Rattle.instructions.specs.declared.instruction.Operation.TheVariants.{SetLessUnsigned, Xor, ShiftRight, ShiftArith}
use Rattle.instructions.specs.declared.instruction.Operation.TheVariants.{Or, And, Mul, MulHigh, MulHighSignedUnsigned}
use Rattle.instructions.specs.declared.instruction.Operation.TheVariants.{MulHighUnsigned, Div, DivUnsigned, Rem}
use Rattle.instructions.specs.declared.instruction.Operation.TheVariants.{RemUnsigned}

-- 1 for true
abbrev pub number_of : Bool → ℕ
number_of b = if b then 1 else 0

unfoldable pub value_of : Operation → ℕ → ℕ → ℕ
value_of Add x y = Value.add_of x y
value_of Sub x y = Value.sub_of x y
value_of ShiftLeft x y = Value.shift_of Left x y
value_of SetLess x y = number_of (Value.less_signed x y)
value_of SetLessUnsigned x y = number_of (Value.less_unsigned x y)
value_of Xor x y = Value.xor_of x y
value_of ShiftRight x y = Value.shift_of Right x y
value_of ShiftArith x y = Value.shift_of Arith x y
value_of Or x y = Value.or_of x y
value_of And x y = Value.and_of x y
value_of Mul x y = Value.mul_of x y
value_of MulHigh x y = Value.mulh_of x y
value_of MulHighSignedUnsigned x y = Value.mulhsu_of x y
value_of MulHighUnsigned x y = Value.mulhu_of x y
value_of Div x y = Value.div_of x y
value_of DivUnsigned x y = Value.divu_of x y
value_of Rem x y = Value.rem_of x y
value_of RemUnsigned x y = Value.remu_of x y

unfoldable pub undef_of : Operation → Bits → Bits → ℕ
undef_of Add x y = Undef.undef_add x y
undef_of Sub x y = Undef.undef_sub x y
undef_of ShiftLeft x y = Undef.undef_shift Left x y
undef_of SetLess x y = Undef.undef_less x y
undef_of SetLessUnsigned x y = Undef.undef_less x y
undef_of Xor x y = Undef.undef_xor x y
undef_of ShiftRight x y = Undef.undef_shift Right x y
undef_of ShiftArith x y = Undef.undef_shift Arith x y
undef_of Or x y = Undef.undef_or x y
undef_of And x y = Undef.undef_and x y
undef_of Mul x y = Undef.undef_mul x y
undef_of MulHigh x y = Undef.undef_wide x y
undef_of MulHighSignedUnsigned x y = Undef.undef_wide x y
undef_of MulHighUnsigned x y = Undef.undef_wide x y
undef_of Div x y = Undef.undef_wide x y
undef_of DivUnsigned x y = Undef.undef_wide x y
undef_of Rem x y = Undef.undef_wide x y
undef_of RemUnsigned x y = Undef.undef_wide x y

unfoldable pub computed : Operation → Bits → Bits → Bits
computed operation x y = record { value = value_of operation x.value y.value; undef = undef_of operation x y }

-- is the branch taken?
unfoldable pub passes : Comparison → ℕ → ℕ → Bool
passes Equal x y = x == y
passes NotEqual x y = not (x == y)
passes Less x y = Value.less_signed x y
passes GreaterEqual x y = not (Value.less_signed x y)
passes LessUnsigned x y = Value.less_unsigned x y
passes GreaterEqualUnsigned x y = not (Value.less_unsigned x y)

-- does what a branch compares depend on an undefined bit?
unfoldable pub is_undecided : Comparison → Bits → Bits → Bool
is_undecided Equal x y = Undef.undef_equal x y
is_undecided NotEqual x y = Undef.undef_equal x y
is_undecided Less x y = Undef.undef_branch x y
is_undecided GreaterEqual x y = Undef.undef_branch x y
is_undecided LessUnsigned x y = Undef.undef_branch x y
is_undecided GreaterEqualUnsigned x y = Undef.undef_branch x y

-- a number of some bits, sign-extended to 32 bits
abbrev pub sign_extended : ℕ → ℕ → ℕ
sign_extended bits x = if nat_lt x (2 ^ (bits - 1)) then x else x + (2 ^ 32 - 2 ^ bits)

-- what a load puts in the register, given the number that it loaded (section 2.6)
unfoldable pub extended : Width → Bool → ℕ → ℕ
extended width true x = sign_extended (8 * width_len width) x
extended width false x = x
