-- What a step has to do with the program's input and output, and the laws of it, which follow from the form of a step.
use Rattle.std.specs.Prelude.{◌≡◌, ℕ, zero, suc, ◌+◌, ◌%◌, ◌^◌, ◌<◌, ◌==◌, ◌&&◌, ◌||◌, ◌⊎◌, Bool, true, false, not}
use Rattle.std.specs.Prelude.{if◌then◌else◌}
use Rattle.std.specs.Prelude.{List, [], ◌++◌, length, Option, Some, None}
use Rattle.shadow_memory.specs.Ranges.{window}
use Rattle.guest_machine.specs.State.{Core, State}
use Rattle.guest_machine.specs.Calls.{argument, appends, bytes_taken, call_at, has_room, is_output, moved_len}
use Rattle.guest_machine.specs.Errors.{fetch_undef}
use Rattle.guest_machine.specs.Exec.{Action, Takes, Cut, CallsByName, Halts, action_at, exec, intake_at, is_running}
use Rattle.guest_machine.specs.Exec.{is_ready, touched_of}
use Rattle.guest_machine.specs.Run.{pre}
use Rattle.guest_elf.specs.Profiles.{has_controls, usual_limits}
use Rattle.instructions.specs.Codes.{len_of, row_of_code}
use Rattle.instructions.specs.declared.code.Code.{Code}
use Rattle.instructions.specs.declared.code.Code.TheVariants.{Word, Half}
use Rattle.instructions.specs.declared.instruction.Instruction.{Instruction}
use Rattle.instructions.specs.declared.instruction.Instruction.TheVariants.{CallEnvironment as CallRow}
use Rattle.guest_machine.specs.declared.environment_call.EnvironmentCall.{EnvironmentCall}
use Rattle.guest_machine.specs.declared.environment_call.EnvironmentCall.TheVariants.{Read as ReadCall}
use Rattle.guest_machine.specs.declared.environment_call.EnvironmentCall.TheVariants.{Write as WriteCall}
use Rattle.guest_machine.specs.declared.environment_call.EnvironmentCall.TheVariants.{Unknown as UnknownCall}
use Rattle.run_values.specs.declared.span.Span.{Span}
use Rattle.guest_machine.specs.declared.setup.Setup.{Setup}

-- ---- the instruction of a step

-- the instruction that is carried out, if one is
unfoldable pub row_in : Action → Option Instruction
row_in (Takes code) = row_of_code code
row_in Cut = None
row_in (CallsByName function) = None
row_in Halts = None

unfoldable pub row_at : State → Setup → Option Instruction
row_at s setup = row_in (action_at s.core s.bytes setup.hooks)

-- is it ECALL?
unfoldable pub calls_out : Option Instruction → Bool
calls_out (Some CallRow) = true
calls_out _ = false

-- `jal x0, 0`, and `c.j 0`, which stands for it: a jump to itself that leaves no link (RISC-V Unprivileged ISA
-- 20191213, sections 2.5 and 16.4)
abbrev pub self_jump : ℕ
self_jump = 0x6F

abbrev pub short_self_jump : ℕ
short_self_jump = 0xA001

-- is it the code that is taken?
abbrev pub is_self_jump : Code → Bool
is_self_jump (Word word) = word == self_jump
is_self_jump (Half half) = half == short_self_jump

unfoldable pub jumps_to_itself : Action → Bool
jumps_to_itself (Takes code) = is_self_jump code
jumps_to_itself Cut = false
jumps_to_itself (CallsByName function) = false
jumps_to_itself Halts = false

-- ---- what a step does

-- does it ask for more of the input than is left?
unfoldable pub sees_end : State → Setup → Bool
sees_end s setup = (intake_at s.core s.bytes s.position setup).ends

-- is a call a `write` to the output without room for its bytes, where there are so many already?
unfoldable pub is_refused : Core → EnvironmentCall → ℕ → Bool
is_refused core WriteCall written = is_output (argument core 10) && not (appends core written)
is_refused core _ written = false

unfoldable pub refuses_row : Core → Option Instruction → ℕ → Bool
refuses_row core (Some CallRow) written = is_refused core (call_at core) written
refuses_row core _ written = false

unfoldable pub refuses_write : State → Setup → Bool
refuses_write s setup = refuses_row s.core (row_at s setup) (length s.output)

-- the number of a call, if it is one that isn't known
unfoldable pub unknown_in : Core → EnvironmentCall → Option ℕ
unknown_in core UnknownCall = Some (argument core 17)
unknown_in core _ = None

unfoldable pub unknown_row : Core → Option Instruction → Option ℕ
unknown_row core (Some CallRow) = unknown_in core (call_at core)
unknown_row core _ = None

unfoldable pub unknown_call : State → Setup → Option ℕ
unknown_call s setup = unknown_row s.core (row_at s setup)

-- a core whose calls move what they do where nothing is said of it
abbrev pub usually : Core → Core
usually core = record core { limits = usual_limits }

abbrev pub are_unlike : Bool → Bool → Bool
are_unlike a b = if a then not b else b

-- does a call move another number of bytes than usual, or is there room where usually there isn't, or none where there
-- is, after this number of bytes so far?
unfoldable pub needs_limits_in : Core → EnvironmentCall → ℕ → Bool
needs_limits_in core ReadCall written =
    (argument core 10 == 0) && not (moved_len core == moved_len (usually core))
needs_limits_in core WriteCall written =
    is_output (argument core 10)
    && (not (moved_len core == moved_len (usually core))
    || are_unlike (has_room core written) (has_room (usually core) written))
needs_limits_in core _ written = false

unfoldable pub needs_limits_row : Core → Option Instruction → ℕ → Bool
needs_limits_row core (Some CallRow) written = needs_limits_in core (call_at core) written
needs_limits_row core _ written = false

unfoldable pub needs_limits : State → Setup → Bool
needs_limits s setup = needs_limits_row s.core (row_at s setup) (length s.output)

-- how many `write`s found no room in the first n steps of a run without marks
unfoldable pub refused_writes : State → Setup → ℕ → ℕ
refused_writes start setup zero = 0
refused_writes start setup (suc n) =
    refused_writes start setup n + (if refuses_write (pre start setup [] n) setup then 1 else 0)

-- is the code that is taken defined?
abbrev pub is_defined : Core → Action → Bool
is_defined core (Takes code) = fetch_undef core (len_of code) == 0
is_defined core _ = false

-- is it a jump to itself, whose code is defined?
abbrev pub idles_in : Core → Action → Bool
idles_in core action = jumps_to_itself action && is_defined core action

unfoldable pub is_idle : State → Setup → Bool
is_idle s setup = idles_in s.core (action_at s.core s.bytes setup.hooks)

-- the first n steps of a run without marks are no ECALLs
abbrev pub IsQuietFor : State → Setup → ℕ → Type 0
IsQuietFor start setup n = (k : ℕ) → k < n → calls_out (row_at (pre start setup [] k) setup) ≡ false

-- ---- laws

-- the input that was read and the output are the same
pub record SameStreams (s t : State) : Type 0 where
  pub position : s.position ≡ t.position
  pub end_seen : s.end_seen ≡ t.end_seen
  pub output : s.output ≡ t.output

-- a step that is no ECALL reads no input and writes no output, and no `write` is refused
abbrev pub OnlyCallsSpeak : Type 0
OnlyCallsSpeak =
    (setup : Setup) (s : State) → calls_out (row_at s setup) ≡ false
    → SameStreams s (exec s setup) × (refuses_write s setup ≡ false)

-- the bytes of a range, in order, if there is one
unfoldable pub bytes_over : (ℕ → ℕ) → Option Span → List ℕ
bytes_over bytes None = []
bytes_over bytes (Some span) = bytes_taken (window bytes span.start span.len) span.len

-- from one state to another nothing was written out, or the bytes of a range, which stay
abbrev pub WritesOut : State → State → Option Span → Type 0
WritesOut s t range = (t.output ≡ s.output) ⊎ ((t.output ≡ s.output ++ bytes_over s.bytes range) × (t.bytes ≡ s.bytes))

-- a step writes out nothing, or the bytes that it reads, in order
abbrev pub WritesWhatItReads : Type 0
WritesWhatItReads = (setup : Setup) (s : State) → WritesOut s (exec s setup) (touched_of s setup).reads

-- a run only adds to its output
abbrev pub OutputGrows : Type 0
OutputGrows =
    (start : State) (setup : Setup) (n d : ℕ)
    → (more : List ℕ) × ((pre start setup [] (n + d)).output ≡ (pre start setup [] n).output ++ more)

-- the other setup has more input at its end
pub record HasMore (one other : Setup) (more : List ℕ) : Type 0 where
  pub redzone : one.redzone ≡ other.redzone
  pub volume : one.volume ≡ other.volume
  pub hooks : one.hooks ≡ other.hooks
  pub input : other.input ≡ one.input ++ more

-- a run that hasn't seen the end of its input is that of each longer input
abbrev pub KeepsFront : Type 0
KeepsFront =
    (one other : Setup) (more : List ℕ) (start : State) (n : ℕ) → HasMore one other more
    → (pre start one [] n).end_seen ≡ false → pre start one [] n ≡ pre start other [] n

-- a state rests: it doesn't run, or it is in a jump to itself
pub record IsIdle (s : State) (setup : Setup) : Type 0 where
  pub within : s.core.pc < 2 ^ 32
  pub counted : s.core.steps < 2 ^ 64
  pub idle : is_idle s setup ≡ true

abbrev pub Rests : State → Setup → Type 0
Rests s setup = (is_running s.core.status ≡ false) ⊎ IsIdle s setup

-- what a number of steps make of a state that rests: they are counted, if it runs and there are counters
abbrev pub rested_core : Core → ℕ → Core
rested_core core n =
    record core {
      steps = if is_ready core && has_controls core.isa then (core.steps + n) % 2 ^ 64 else core.steps;
    }

unfoldable pub rested : State → ℕ → State
rested s n = record s { core = rested_core s.core n }

-- a state that rests stays as it is for any number of steps, but for their number, and none of them is an ECALL
abbrev pub StaysAtRest : Type 0
StaysAtRest =
    (setup : Setup) (s : State) → Rests s setup
    → (n : ℕ) → (pre s setup [] n ≡ rested s n) × (calls_out (row_at (pre s setup [] n) setup) ≡ false)
