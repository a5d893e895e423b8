-- What a register is to one step: the step looks at it, keeps it, or overwrites it without a look (RISC-V Unprivileged
-- ISA 20191213, chapters 2 and 7; the stack pointer rule of the Valgrind user manual, section 4.5.2).
use Rattle.std.specs.Prelude.{ℕ, ◌+◌, ◌*◌, ◌/◌, ◌%◌, ◌^◌, ◌==◌, ◌&&◌, ◌||◌, Bool, true, false, if◌then◌else◌}
use Rattle.std.specs.Prelude.{Option, Some}
use Rattle.definedness.specs.declared.Bits.{Bits}
use Rattle.instructions.specs.Codes.{row_of_code}
use Rattle.instructions.specs.declared.instruction.Instruction.{Instruction}
use Rattle.instructions.specs.declared.instruction.Instruction.TheVariants.{LoadUpper, AddUpper, Jump, JumpRegister}
use Rattle.instructions.specs.declared.instruction.Instruction.TheVariants.{Branch, Load, Store, Immediate, Registers}
use Rattle.instructions.specs.declared.instruction.Instruction.TheVariants.{CallEnvironment, LoadReserved}
use Rattle.instructions.specs.declared.instruction.Instruction.TheVariants.{StoreConditional, Update, Control}
use Rattle.guest_elf.specs.Profiles.{is_aligned}
use Rattle.guest_machine.specs.State.{Core, State}
use Rattle.guest_machine.specs.Registers.{set_register}
use Rattle.guest_machine.specs.Effects.{target}
use Rattle.guest_machine.specs.Exec.{Action, Takes, Cut, CallsByName, Halts, action_at}
use Rattle.guest_machine.specs.declared.setup.Setup.{Setup}
use Rattle.pruning.specs.declared.passing.Passing.{Passing}
use Rattle.pruning.specs.declared.passing.Passing.TheVariants.{Looks, Keeps, Overwrites}

-- is a register an operand of an instruction? Each register counts as one of an environment call, as the values of some
-- decide which others the call looks at, of an atomic instruction, which is a load, a store or both, and of one of a
-- control register
unfoldable pub reads : Option Instruction → ℕ → Bool
reads (Some (JumpRegister rd rs1 imm)) r = r == rs1
reads (Some (Branch test rs1 rs2 imm)) r = (r == rs1) || (r == rs2)
reads (Some (Load width signed rd rs1 imm)) r = r == rs1
reads (Some (Store width rs1 rs2 imm)) r = (r == rs1) || (r == rs2)
reads (Some (Immediate operation rd rs1 imm)) r = r == rs1
reads (Some (Registers operation rd rs1 rs2)) r = (r == rs1) || (r == rs2)
reads (Some CallEnvironment) r = true
reads (Some (LoadReserved rd rs1)) r = true
reads (Some (StoreConditional rd rs1 rs2)) r = true
reads (Some (Update update rd rs1 rs2)) r = true
reads (Some (Control access rd number operand)) r = true
reads _ r = false

-- is it the destination of an instruction?
unfoldable pub writes : Option Instruction → ℕ → Bool
writes (Some (LoadUpper rd imm)) r = r == rd
writes (Some (AddUpper rd imm)) r = r == rd
writes (Some (Jump rd imm)) r = r == rd
writes (Some (JumpRegister rd rs1 imm)) r = r == rd
writes (Some (Load width signed rd rs1 imm)) r = r == rd
writes (Some (Immediate operation rd rs1 imm)) r = r == rd
writes (Some (Registers operation rd rs1 rs2)) r = r == rd
writes _ r = false

-- does an instruction come to write its destination? A jump to an address at which no instruction may begin leaves it
unfoldable pub completes : Core → Option Instruction → Bool
completes core (Some (Jump rd imm)) = is_aligned core.isa ((core.pc + imm) % 2 ^ 32)
completes core (Some (JumpRegister rd rs1 imm)) = is_aligned core.isa (target core rs1 imm / 2 * 2)
completes core _ = true

-- an instruction looks at its operands. One whose destination is x2 looks at x2, as the stack pointer rule compares the
-- value before with the value after
abbrev pub looks_at : Option Instruction → ℕ → Bool
looks_at row r = reads row r || (writes row r && (r == 2))

-- what a register is to an instruction
unfoldable pub passing_row : Core → Option Instruction → ℕ → Passing
passing_row core row r =
    if looks_at row r then Looks
    else if completes core row && writes row r then Overwrites
    else Keeps

-- and to a step, by what this does. A heap call by name looks at the return address and at its parameters: like an
-- environment call, it counts as one that looks at each register. A step that does neither keeps them all
unfoldable pub passing_action : Core → Action → ℕ → Passing
passing_action core (Takes code) r = passing_row core (row_of_code code) r
passing_action core Cut r = Keeps
passing_action core (CallsByName function) r = Looks
passing_action core Halts r = Keeps

-- what a register is to the step of a state
unfoldable pub passing : State → Setup → ℕ → Passing
passing s setup r = passing_action s.core (action_at s.core s.bytes setup.hooks) r

-- a state with other bits in a register
unfoldable pub with_register : State → ℕ → Bits → State
with_register s r bits = record s { core = set_register s.core r bits }
