-- Instructions of control registers (RISC-V Unprivileged ISA 20191213, chapter 9): whether they write one, and what.
use Rattle.std.specs.Prelude.{ℕ, ◌==◌, not, Bool, true}
use Rattle.definedness.specs.declared.Bits.{Bits}
use Rattle.instructions.specs.Alu.{computed}
use Rattle.instructions.specs.declared.control.ControlAccess.{ControlAccess}
use Rattle.instructions.specs.declared.control.ControlAccess.TheVariants.{Write, Set, Clear}
use Rattle.instructions.specs.declared.control.ControlOperand.{ControlOperand}
use Rattle.instructions.specs.declared.control.ControlOperand.TheVariants.{Register, Immediate}
use Rattle.instructions.specs.declared.instruction.Operation.TheVariants as operations

-- the number of the operand's register, or the operand itself
abbrev pub number_in : ControlOperand → ℕ
number_in (Register r) = r
number_in (Immediate n) = n

-- is the register written? CSRRS and CSRRC with x0, and CSRRSI and CSRRCI with 0, only read it (section 9.1)
unfoldable pub writes : ControlAccess → ControlOperand → Bool
writes Write operand = true
writes Set operand = not (number_in operand == 0)
writes Clear operand = not (number_in operand == 0)

-- each bit turned; undefined bits stay undefined
abbrev pub complement : Bits → Bits
complement given = computed operations.Xor given (record { value = 4294967295; undef = 0 })

-- what replaces the register's word, by that of the operand (section 9.1)
unfoldable pub replaced : ControlAccess → Bits → Bits → Bits
replaced Write held given = given
replaced Set held given = computed operations.Or held given
replaced Clear held given = computed operations.And held (complement given)
