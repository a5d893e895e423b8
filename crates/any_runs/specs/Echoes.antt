-- Writes of bytes that may be any: their error is no use.
use Rattle.std.specs.Prelude.{◌≡◌, ◌⊎◌, ℕ, Bool, true, false, List, [], ◌∷◌, length, Option, Some, None, if◌then◌else◌}
use Rattle.error_events.specs.declared.event.Event.{Event}
use Rattle.error_events.specs.declared.kind.Kind.{Kind}
use Rattle.error_events.specs.declared.kind.Kind.TheVariants.{Param}
use Rattle.error_events.specs.declared.kind.ParameterFault.{ParameterFault}
use Rattle.error_events.specs.declared.kind.ParameterFault.TheVariants.{Contains, Uninit, Unaddressable}
use Rattle.error_events.specs.declared.parameter.Parameter.{Parameter}
use Rattle.error_events.specs.declared.parameter.Parameter.TheVariants.{WriteBuffer}
use Rattle.instructions.specs.Codes.{row_of_code}
use Rattle.instructions.specs.declared.code.Code.{Code}
use Rattle.instructions.specs.declared.instruction.Instruction.{Instruction}
use Rattle.instructions.specs.declared.instruction.Instruction.TheVariants.{CallEnvironment as CallRow}
use Rattle.shadow_memory.specs.Shadows.{first_inaccessible}
use Rattle.guest_machine.specs.State.{Core, State}
use Rattle.guest_machine.specs.Calls.{argument, appends, moved_len}
use Rattle.guest_machine.specs.Exec.{Takes, Terms, action_at, exec, row_effect}
use Rattle.guest_machine.specs.declared.setup.Setup.{Setup}
use Rattle.clean_reports.specs.Uses.{NoUse}
use Rattle.clean_reports.specs.Heap.{BlocksAreOpen}
use Rattle.any_runs.specs.Sharper.{HasStackPointer}
use Rattle.any_runs.specs.Stands.{MemoryStands, RegistersStand, ControlsStand}

abbrev pub echo_of : ParameterFault → Parameter → Bool
echo_of Uninit WriteBuffer = true
echo_of Uninit _ = false
echo_of Contains parameter = false
echo_of Unaddressable parameter = false

-- is it the error of a write of undefined bytes?
abbrev pub is_echo : Kind → Bool
is_echo (Param parameter fault) = echo_of fault parameter
is_echo _ = false

-- the errors but for these
unfoldable pub kept : List Event → List Event
kept [] = []
kept (e ∷ es) = if is_echo e.kind then kept es else e ∷ kept es

-- a write call
abbrev pub IsWrite : Core → Option Instruction → Type 0
IsWrite core row = (row ≡ Some CallRow) × (argument core 17 ≡ 64)

-- every other instruction has no such error
abbrev pub RowsKept : Type 0
RowsKept =
    (core : Core) (next : ℕ) (row : Option Instruction) (terms : Terms) (given : List ℕ) (taken : ℕ → ℕ)
    → IsWrite core row ⊎ (kept (row_effect core next row terms given taken).raised
    ≡ (row_effect core next row terms given taken).raised)

-- one state stands for another, but for the content of the output, and the errors of writes of undefined bytes
pub record StandsBut (s t : State) : Type 0 where
  pub memory : MemoryStands s.core.shadow t.core.shadow s.bytes t.bytes
  pub registers : RegistersStand s.core.registers t.core.registers
  pub controls : ControlsStand s.core.controls t.core.controls
  pub pc : s.core.pc ≡ t.core.pc
  pub status : s.core.status ≡ t.core.status
  pub frames : s.core.frames ≡ t.core.frames
  pub blocks : s.core.blocks ≡ t.core.blocks
  pub isa : s.core.isa ≡ t.core.isa
  pub stack : s.core.stack ≡ t.core.stack
  pub limits : s.core.limits ≡ t.core.limits
  pub reserved : s.core.reserved ≡ t.core.reserved
  pub steps : s.core.steps ≡ t.core.steps
  pub position : s.position ≡ t.position
  pub end_seen : s.end_seen ≡ t.end_seen
  pub output : length s.output ≡ length t.output
  pub heap_calls : s.heap_calls ≡ t.heap_calls
  pub events : kept s.events ≡ kept t.events

-- a write that the next step makes has a buffer that may be accessed
abbrev pub WritesOpen : State → Setup → Type 0
WritesOpen s setup =
    (code : Code) → action_at s.core s.bytes setup.hooks ≡ Takes code → IsWrite s.core (row_of_code code)
    → appends s.core (length s.output) ≡ true
    → first_inaccessible s.core.shadow (argument s.core 11) (moved_len s.core) ≡ None

-- the law of a step
abbrev pub EchoesStand : List ℕ → Type 0
EchoesStand input =
    (setup : Setup) (s t : State) → setup.input ≡ input → StandsBut s t → BlocksAreOpen s.core → HasStackPointer s
    → HasStackPointer (exec s setup) → WritesOpen s setup → NoUse (kept (exec s setup).events)
    → StandsBut (exec s setup) (exec t setup)
