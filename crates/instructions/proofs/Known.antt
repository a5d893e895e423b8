-- Operands with no undefined bits give results with none.
use Rattle.std.proofs.Common.{◌≡◌}
use Rattle.definedness.specs.declared.Bits.{Bits}
use Rattle.definedness.specs.declared.Shift.TheVariants.{Left, Right, Arith}
use Rattle.definedness.specs.KnownLaw.{GivesDefined}
use Rattle.instructions.specs.Alu.{undef_of}
use Rattle.instructions.specs.declared.instruction.Operation.{Operation}
use Rattle.instructions.specs.declared.instruction.Operation.TheVariants.{Add, Sub, ShiftLeft, SetLess}
use Rattle.instructions.specs.declared.instruction.Operation.TheVariants.{SetLessUnsigned, Xor, ShiftRight, ShiftArith}
use Rattle.instructions.specs.declared.instruction.Operation.TheVariants.{Or, And, Mul, MulHigh, MulHighSignedUnsigned}
use Rattle.instructions.specs.declared.instruction.Operation.TheVariants.{MulHighUnsigned, Div, DivUnsigned, Rem}
use Rattle.instructions.specs.declared.instruction.Operation.TheVariants.{RemUnsigned}

pub none_of : (operation : Operation) (x y : Bits) → GivesDefined x y → undef_of operation x y ≡ 0
unfolding undef_of
none_of Add x y law = law.add
none_of Sub x y law = law.sub
none_of ShiftLeft x y law = law.shift Left
none_of SetLess x y law = law.less
none_of SetLessUnsigned x y law = law.less
none_of Xor x y law = law.xor
none_of ShiftRight x y law = law.shift Right
none_of ShiftArith x y law = law.shift Arith
none_of Or x y law = law.or
none_of And x y law = law.and
none_of Mul x y law = law.mul
none_of MulHigh x y law = law.wide
none_of MulHighSignedUnsigned x y law = law.wide
none_of MulHighUnsigned x y law = law.wide
none_of Div x y law = law.wide
none_of DivUnsigned x y law = law.wide
none_of Rem x y law = law.wide
none_of RemUnsigned x y law = law.wide
