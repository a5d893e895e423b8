-- The compares that a run executes, with their operands.
use Rattle.std.specs.Prelude.{ℕ, ◌++◌, if◌then◌else◌, nat_lt, zero, suc, List, [], Option, Some, None}
use Rattle.std.specs.Prelude.{option_and_then, option_map, option_to_list}
use Rattle.guest_machine.specs.State.{Core, State}
use Rattle.guest_machine.specs.Exec.{code_in, action_at}
use Rattle.guest_machine.specs.Registers.{register}
use Rattle.guest_machine.specs.Run.{post}
use Rattle.guest_machine.specs.declared.setup.Setup.{Setup}
use Rattle.instructions.specs.Codes.{row_of_code}
use Rattle.instructions.specs.declared.code.Code.{Code}
use Rattle.instructions.specs.declared.instruction.Instruction.{Instruction}
use Rattle.instructions.specs.declared.instruction.Instruction.TheVariants.{Branch, Immediate, Registers}
use Rattle.instructions.specs.declared.instruction.Operation.{Operation}
use Rattle.instructions.specs.declared.instruction.Operation.TheVariants.{SetLess, SetLessUnsigned}
use Rattle.run_values.specs.declared.alteration.Alteration.{Alteration}
use Rattle.checkpoints.specs.declared.compares.Compare.{Compare}

-- ---- which instruction is a compare

-- the value of a register, whichever of its bits are undefined
abbrev pub value_of : Core → ℕ → ℕ
value_of core r = (register core r).value

-- the operands of an operation, if it compares them
abbrev pub if_compares : Operation → ℕ → ℕ → Option (ℕ × ℕ)
if_compares SetLess left right = Some (left, right)
if_compares SetLessUnsigned left right = Some (left, right)
if_compares _ left right = None

-- the operands of an instruction, if it is a compare: a branch (RISC-V Unprivileged ISA 20191213, section 2.5), SLT or
-- SLTU, or SLTI or SLTIU, whose right operand is the immediate, sign-extended (section 2.4)
unfoldable pub operands_of : Core → Instruction → Option (ℕ × ℕ)
operands_of core (Branch comparison rs1 rs2 imm) = Some (value_of core rs1, value_of core rs2)
operands_of core (Registers operation rd rs1 rs2) = if_compares operation (value_of core rs1) (value_of core rs2)
operands_of core (Immediate operation rd rs1 imm) = if_compares operation (value_of core rs1) imm
operands_of core _ = None

-- the operands of a code, if it is that of a compare
abbrev pub operands_in : Core → Code → Option (ℕ × ℕ)
operands_in core code = option_and_then (operands_of core) (row_of_code code)

-- ---- the compare of a step

-- the code that the step of a state takes, if it takes one: one that calls a function of the heap by name takes none,
-- nor does that of a machine that is halted
abbrev pub code_at : State → Setup → Option Code
code_at s setup = code_in (action_at s.core s.bytes setup.hooks)

-- the compare of a step at an address, by its operands
abbrev pub compare_by : ℕ → ℕ → ℕ × ℕ → Compare
compare_by step pc operands = record { step = step; pc = pc; left = operands.0; right = operands.1 }

-- the compare that the step of a state executes, if it executes one
abbrev pub compare_at : ℕ → State → Setup → Option Compare
compare_at step s setup =
    option_map (compare_by step s.core.pc) (option_and_then (operands_in s.core) (code_at s setup))

-- ---- the compares of a run

-- those of the steps of a run from one on, below another, in order
unfoldable pub compares_between : State → Setup → List Alteration → ℕ → ℕ → List Compare
compares_between start setup marks from zero = []
compares_between start setup marks from (suc k) =
    if nat_lt k from then [] else
    compares_between start setup marks from k ++ option_to_list (compare_at k (post start setup marks k) setup)
