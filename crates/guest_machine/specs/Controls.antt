-- Control registers (RISC-V Unprivileged ISA 20191213, chapter 9; Privileged Architecture 20190608, chapter 2): words
-- with undefined bits, which instructions alone change; some are counters. And the fence of fetches and the wait for an
-- interrupt, which do nothing: a store is fetched at once, and there are no interrupts.
use Rattle.std.specs.Prelude.{ℕ, ◌/◌, ◌%◌, ◌^◌, ◌==◌, ◌&&◌, ◌||◌, not, Bool, if◌then◌else◌}
use Rattle.std.specs.Prelude.{Option, Some, None}
use Rattle.definedness.specs.declared.Bits.{Bits}
use Rattle.control_registers.specs.Registers.{with_register}
use Rattle.guest_elf.specs.Profiles.{has_controls}
use Rattle.instructions.specs.Controls.{replaced, writes}
use Rattle.instructions.specs.declared.control.ControlAccess.{ControlAccess}
use Rattle.instructions.specs.declared.control.ControlOperand.{ControlOperand}
use Rattle.instructions.specs.declared.control.ControlOperand.TheVariants as operands
use Rattle.run_values.specs.declared.status.Stop.TheVariants.{Illegal}
use Rattle.guest_machine.specs.State.{Core}
use Rattle.guest_machine.specs.Registers.{known, register}
use Rattle.guest_machine.specs.Effects.{Effect, moved_to, quiet, results_in, stops}

-- can a register only be read? The two highest of the twelve bits of its number say so (Privileged Architecture,
-- section 2.1)
abbrev pub is_read_only : ℕ → Bool
is_read_only number = number / 1024 % 4 == 3

-- mcycle and minstret (Privileged Architecture, section 3.1.11), cycle, time and instret (chapter 10): the lower halves
-- of counters of 64 bits; and the upper ones
abbrev pub is_counter : ℕ → Bool
is_counter number =
    (number == 0xB00) || ((number == 0xB02) || ((number == 0xC00) || ((number == 0xC01) || (number == 0xC02))))

abbrev pub is_upper_counter : ℕ → Bool
is_upper_counter number =
    (number == 0xB80) || ((number == 0xB82) || ((number == 0xC80) || ((number == 0xC81) || (number == 0xC82))))

-- the word in a control register. Each counter has the number of steps before this one
unfoldable pub control : Core → ℕ → Bits
control core number =
    if is_counter number then known (core.steps % 2 ^ 32)
    else if is_upper_counter number then known (core.steps / 2 ^ 32 % 2 ^ 32)
    else core.controls number

-- what is seen of one from outside: its word, in an instruction set that has control registers
unfoldable pub control_seen : Core → ℕ → Option Bits
control_seen core number = if has_controls core.isa then Some (control core number) else None

-- the word of the operand
unfoldable pub operand_of : Core → ControlOperand → Bits
operand_of core (operands.Register r) = register core r
operand_of core (operands.Immediate n) = known n

-- is it an instruction of the machine? Not if it writes a register that can only be read (Privileged Architecture,
-- section 2.1)
unfoldable pub has_control : Core → ControlAccess → ℕ → ControlOperand → Bool
has_control core access number operand = has_controls core.isa && not (writes access operand && is_read_only number)

-- the control registers after it: one has another word, if it's written and is no counter
unfoldable pub controls_after : Core → ControlAccess → ℕ → ControlOperand → ℕ → Bits
controls_after core access number operand =
    if writes access operand && not (is_counter number || is_upper_counter number)
    then with_register core.controls number (replaced access (control core number) (operand_of core operand))
    else core.controls

-- CSRRW, CSRRS, CSRRC, and the same with an immediate (section 9.1): rd gets the word that was there. No undefined bit
-- is used, as none is by a move between registers
unfoldable pub control_effect : Core → ℕ → ControlAccess → ℕ → ℕ → ControlOperand → Effect
control_effect core next access rd number operand =
    if has_control core access number operand
    then results_in (record core { controls = controls_after core access number operand }) next rd (control core number)
    else stops core Illegal

-- FENCE.I (chapter 3) and WFI (Privileged Architecture, section 3.2.3)
unfoldable pub barrier : Core → ℕ → Effect
barrier core next = if has_controls core.isa then quiet (moved_to core next) else stops core Illegal
