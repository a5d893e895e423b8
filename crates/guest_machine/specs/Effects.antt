-- What each instruction does, as a function of what decides it, of the input that it gets and of the bytes that it
-- reads (RISC-V Unprivileged ISA 20191213, chapters 2 and 7; undefined bits as in Memcheck).
use Rattle.std.specs.Prelude.{ℕ, ◌+◌, ◌*◌, ◌/◌, ◌%◌, ◌^◌, Bool, true, false, not, if◌then◌else◌, List, [], ◌++◌}
use Rattle.definedness.specs.declared.Bits.{Bits}
use Rattle.shadow_memory.specs.Ranges.{little_word}
use Rattle.shadow_memory.specs.Shadows.{stored_undef}
use Rattle.shadow_memory.specs.Ranges.{byte_of}
use Rattle.instructions.specs.Widths.{width_len}
use Rattle.guest_elf.specs.Profiles.{is_aligned}
use Rattle.guest_machine.specs.State.{Core}
use Rattle.guest_machine.specs.Registers.{known, register, set_register, defined, tested}
use Rattle.instructions.specs.Alu.{computed, passes, is_undecided, extended}
use Rattle.guest_machine.specs.Errors.{here, event_unless, value_errors, access_errors, taken_undef}
use Rattle.instructions.specs.CallStack.{jal_hint, jalr_hint, hinted}
use Rattle.instructions.specs.declared.hint.StackHint.{StackHint}
use Rattle.instructions.specs.declared.width.Width.{Width}
use Rattle.instructions.specs.declared.instruction.Comparison.{Comparison}
use Rattle.instructions.specs.declared.instruction.Operation.{Operation}
use Rattle.run_values.specs.declared.status.Status.TheVariants.{Exited, Stopped}
use Rattle.run_values.specs.declared.status.Stop.{Stop}
use Rattle.run_values.specs.declared.status.Stop.TheVariants.{Misaligned}
use Rattle.error_events.specs.declared.event.Event.{Event}
use Rattle.error_events.specs.declared.kind.Kind.TheVariants.{Read, Write, Cond}

-- what a step leaves: the new core, the errors that it raises, the byte for each offset of the range that it writes,
-- and the bytes that it writes out
pub record Effect : Type 0 where
  pub core : Core
  pub raised : List Event
  pub made : ℕ → ℕ
  pub output : List ℕ

abbrev pub no_bytes : ℕ → ℕ
no_bytes i = 0

-- an effect only on the core
abbrev pub quiet : Core → Effect
quiet core = record { core = core; raised = []; made = no_bytes; output = [] }

-- an effect on the core, with errors
abbrev pub raising : Core → List Event → Effect
raising core events = record { core = core; raised = events; made = no_bytes; output = [] }

abbrev pub moved_to : Core → ℕ → Core
moved_to core to = record core { pc = to }

-- the address after an instruction of this length at pc
abbrev pub next_of : Core → ℕ → ℕ
next_of core len = (core.pc + len) % 2 ^ 32

abbrev pub stopped : Core → Stop → Core
stopped core stop = record core { status = Stopped stop }

abbrev pub exited : Core → ℕ → Core
exited core code = record core { status = Exited code }

-- the undefined bits of a number stored at n bytes
abbrev pub stored_core : Core → ℕ → ℕ → ℕ → Core
stored_core core start n undef = record core { shadow = stored_undef core.shadow start n undef }

-- Below, `next` is the address after the instruction, where the machine goes on unless the instruction says otherwise.

-- an instruction that only writes rd
abbrev pub results_in : Core → ℕ → ℕ → Bits → Effect
results_in core next rd bits = quiet (moved_to (set_register core rd bits) next)

-- LUI and AUIPC (section 2.4)
abbrev pub load_upper : Core → ℕ → ℕ → ℕ → Effect
load_upper core next rd imm = results_in core next rd (known imm)

abbrev pub add_upper : Core → ℕ → ℕ → ℕ → Effect
add_upper core next rd imm = results_in core next rd (known ((core.pc + imm) % 2 ^ 32))

-- computations with an immediate, and of two registers (sections 2.4 and 7)
abbrev pub compute_immediate : Core → ℕ → Operation → ℕ → ℕ → ℕ → Effect
compute_immediate core next operation rd rs1 imm =
    results_in core next rd (computed operation (register core rs1) (known imm))

abbrev pub compute : Core → ℕ → Operation → ℕ → ℕ → ℕ → Effect
compute core next operation rd rs1 rs2 =
    results_in core next rd (computed operation (register core rs1) (register core rs2))

-- rs1 plus the immediate: the address of a load, a store or JALR
unfoldable pub target : Core → ℕ → ℕ → ℕ
target core rs1 imm = ((register core rs1).value + imm) % 2 ^ 32

-- loads (section 2.6): rs1 is tested, and then the bytes; they are loaded even so, and the sign bit and its undefined
-- bit are extended together
abbrev pub load : Core → ℕ → Width → Bool → ℕ → ℕ → ℕ → (ℕ → ℕ) → Effect
load core next width signed rd rs1 imm taken =
    let now = tested core rs1 in
    let start = target core rs1 imm in
    let undef = taken_undef now start (width_len width) in
    let bits : Bits = record {
      value = extended width signed (little_word taken);
      undef = extended width signed undef;
    } in
    raising (moved_to (set_register now rd bits) next) (value_errors core rs1
    ++ access_errors now (Read (width_len width)) start (width_len width))

-- stores (section 2.6): rs1 is tested, and then the bytes; the low bytes of rs2 are stored even so, with their
-- undefined bits
abbrev pub store : Core → ℕ → Width → ℕ → ℕ → ℕ → Effect
store core next width rs1 rs2 imm =
    let now = tested core rs1 in
    record {
      core = moved_to (stored_core now (target core rs1 imm) (width_len width) (register now rs2).undef) next;
      raised =
          value_errors core rs1 ++ access_errors now (Write (width_len width)) (target core rs1 imm) (width_len width);
      made = byte_of (register now rs2).value;
      output = [];
    }

-- a jump to an address: one at which no instruction may begin stops the machine (section 2.5)
unfoldable pub jumped : Core → ℕ → Core
jumped core to = if is_aligned core.isa to then moved_to core to else stopped core Misaligned

-- does a branch depend on undefined bits?
abbrev pub is_undefined : Core → Comparison → ℕ → ℕ → Bool
is_undefined core test rs1 rs2 = is_undecided test (register core rs1) (register core rs2)

-- after the test of a branch: if it depends on undefined bits, both registers are made defined, otherwise they stay
unfoldable pub branch_tested : Core → Comparison → ℕ → ℕ → Core
branch_tested core test rs1 rs2 = if is_undefined core test rs1 rs2 then defined (defined core rs1) rs2 else core

-- the error of a branch
abbrev pub branch_errors : Core → Comparison → ℕ → ℕ → List Event
branch_errors core test rs1 rs2 = event_unless (not (is_undefined core test rs1 rs2)) (here core) Cond

-- conditional branches (section 2.5)
unfoldable pub branched : Bool → Core → ℕ → ℕ → Core
branched true core next to = jumped core to
branched false core next to = moved_to core next

abbrev pub branch : Core → ℕ → Comparison → ℕ → ℕ → ℕ → Effect
branch core next test rs1 rs2 imm =
    raising
    (branched (passes test (register core rs1).value (register core rs2).value) (branch_tested core test rs1 rs2) next
    ((core.pc + imm) % 2 ^ 32))
    (branch_errors core test rs1 rs2)

-- the calls that the machine is in, by what a jump hints
abbrev pub followed : Core → ℕ → StackHint → ℕ → Core
followed core next hint to = record core { frames = hinted hint core.pc next to core.frames }

-- a jump that leaves the address after it in rd; one to an address at which no instruction may begin stops the machine,
-- and leaves rd and the calls
unfoldable pub linked_jump : Core → ℕ → StackHint → ℕ → ℕ → Core
linked_jump core next hint rd to =
    if is_aligned core.isa to then moved_to (set_register (followed core next hint to) rd (known next)) to
    else stopped core Misaligned

-- JAL and JALR (section 2.5): JALR's register is tested; its target is computed before rd is written, and its lowest
-- bit is cleared
abbrev pub jump : Core → ℕ → ℕ → ℕ → Effect
jump core next rd imm = quiet (linked_jump core next (jal_hint rd) rd ((core.pc + imm) % 2 ^ 32))

abbrev pub jump_register : Core → ℕ → ℕ → ℕ → ℕ → Effect
jump_register core next rd rs1 imm =
    raising (linked_jump (tested core rs1) next (jalr_hint rd rs1) rd (target core rs1 imm / 2 * 2))
    (value_errors core rs1)

-- a step that only stops the machine
abbrev pub stops : Core → Stop → Effect
stops core stop = quiet (stopped core stop)
