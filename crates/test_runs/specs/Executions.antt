-- A run of a scenario whose output is written as it is made.
use Rattle.std.specs.Prelude.{◌≡◌, ℕ, zero, suc, ◌≤◌, ◌<◌, ◌==◌, ◌||◌, ◌⊎◌, Bool, true, false, not, if◌then◌else◌}
use Rattle.std.specs.Prelude.{List, [], ◌∷◌, ◌++◌, Option, length, take, drop}
use Rattle.std.specs.Io.KnownBytes.{Appends}
use Rattle.guest_machine.specs.Calls.{argument}
use Rattle.guest_machine.specs.Exec.{exec}
use Rattle.guest_machine.specs.State.{State}
use Rattle.guest_machine.specs.Run.{pre}
use Rattle.guest_machine.specs.Shows.{Shows}
use Rattle.guest_machine.specs.Streams.{needs_limits, refused_writes, sees_end, unknown_call, SameStreams}
use Rattle.guest_machine.specs.declared.machine.Machine.{Machine}
use Rattle.guest_machine.specs.declared.setup.Setup.{Setup}
use Rattle.scenario.specs.Edits.{with_input}
use Rattle.scenario.specs.Scenario.{Scenario, first_state}
use Rattle.test_runs.specs.declared.execution.Execution.{Execution}
use Rattle.unknown_calls.specs.UnknownCalls.{after_maybe}
use Rattle.unknown_calls.specs.declared.UnknownCall.{UnknownCall}

-- ---- a run without marks

-- the state before step n
abbrev pub state_at : Scenario → ℕ → State
state_at sc n = pre (first_state sc) sc.setup [] n

-- how many `write`s found no room before step n
abbrev pub refused_at : Scenario → ℕ → ℕ
refused_at sc n = refused_writes (first_state sc) sc.setup n

-- ---- what a program writes

-- what a step writes out: the bytes by which the output is longer after it
abbrev pub piece_of : State → Setup → List ℕ
piece_of s setup = drop (length s.output) (exec s setup).output

-- the part of a piece for one descriptor, where a `write` names a descriptor
abbrev pub part_to : ℕ → ℕ → List ℕ → List ℕ
part_to named descriptor piece = if named == descriptor then piece else []

-- what a step writes to a descriptor, which it names in a0 (x10)
unfoldable pub piece_to : State → Setup → ℕ → List ℕ
piece_to s setup descriptor = part_to (argument s.core 10) descriptor (piece_of s setup)

-- what the first n steps of a run without marks write to a descriptor
unfoldable pub written_to : State → Setup → ℕ → ℕ → List ℕ
written_to start setup descriptor zero = []
written_to start setup descriptor (suc n) =
    written_to start setup descriptor n ++ piece_to (pre start setup [] n) setup descriptor

abbrev pub written_at : Scenario → ℕ → ℕ → List ℕ
written_at sc descriptor n = written_to (first_state sc) sc.setup descriptor n

-- what step n writes to a descriptor
abbrev pub piece_at : Scenario → ℕ → ℕ → List ℕ
piece_at sc descriptor n = piece_to (state_at sc n) sc.setup descriptor

-- is the last line of a text open after some more bytes: is the last byte another one than a newline?
unfoldable pub open_after : Bool → List ℕ → Bool
open_after was [] = was
open_after was (byte ∷ bytes) = open_after (not (byte == 10)) bytes

-- is the last line open that the first n steps write to standard error?
abbrev pub is_open_at : Scenario → ℕ → Bool
is_open_at sc n = open_after false (written_at sc 2 n)

-- ---- calls that aren't known

-- those of the first n steps of a run without marks, counted by their numbers, of which the first ten are kept
unfoldable pub calls_of : State → Setup → ℕ → List UnknownCall
calls_of start setup zero = []
calls_of start setup (suc n) =
    after_maybe (calls_of start setup n) (unknown_call (pre start setup [] n) setup)

abbrev pub calls_at : Scenario → ℕ → List UnknownCall
calls_at sc n = calls_of (first_state sc) sc.setup n

-- ---- how many bytes calls move

-- does one of the first n steps of a run without marks do something else by the usual limits?
unfoldable pub needs_of : State → Setup → ℕ → Bool
needs_of start setup zero = false
needs_of start setup (suc n) = needs_of start setup n || needs_limits (pre start setup [] n) setup

abbrev pub needs_at : Scenario → ℕ → Bool
needs_at sc n = needs_of (first_state sc) sc.setup n

-- ---- an execution

abbrev pub step_of : Execution → ℕ
step_of e = e.at

abbrev pub machine_of : Execution → Machine
machine_of e = e.machine

abbrev pub refused_of : Execution → ℕ
refused_of e = e.refused

abbrev pub open_of : Execution → Bool
open_of e = e.is_open

abbrev pub unknown_of : Execution → List UnknownCall
unknown_of e = e.unknown.items

abbrev pub limited_of : Execution → Bool
limited_of e = e.needs_limits

-- it is at a step of the run of a scenario
pub record IsAt (e : Execution) (sc : Scenario) : Type 0 where
  pub shows : Shows (machine_of e) (state_at sc (step_of e))
  pub refused : refused_of e ≡ refused_at sc (step_of e)
  pub line : open_of e ≡ is_open_at sc (step_of e)
  pub unknown : unknown_of e ≡ calls_at sc (step_of e)
  pub limits : limited_of e ≡ needs_at sc (step_of e)

-- it went on to a later step
pub record GoesOn (sc : Scenario) (old new : Execution) : Type 0 where
  pub at : IsAt new sc
  pub on : step_of old ≤ step_of new
  pub within : step_of new ≤ sc.step

-- with no input read and nothing written
pub record GoesOnSilently (sc : Scenario) (old new : Execution) : Type 0 where
  pub on : GoesOn sc old new
  pub same : SameStreams (state_at sc (step_of old)) (state_at sc (step_of new))
  pub none : (descriptor : ℕ) → written_at sc descriptor (step_of new) ≡ written_at sc descriptor (step_of old)

-- ---- where it is written

-- what standard output and standard error were given, where they tell it
pub record Held : Type 0 where
  pub out : Option (List ℕ)
  pub err : Option (List ℕ)

abbrev pub held : Option (List ℕ) → Option (List ℕ) → Held
held out err = record { out = out; err = err }

-- they are given bytes each, and nothing else
abbrev pub Gives : Held → Held → List ℕ → List ℕ → Type 0
Gives old new out err = Appends old.out new.out out × Appends old.err new.err err

-- the stream of a descriptor is given bytes
abbrev pub GivesTo : ℕ → Held → Held → List ℕ → Type 0
GivesTo named old new said = Gives old new (part_to named 1 said) (part_to named 2 said)

-- bytes are what the run writes to a descriptor from one step to another
abbrev pub IsSaid : Scenario → ℕ → ℕ → ℕ → List ℕ → Type 0
IsSaid sc descriptor from to said = written_at sc descriptor to ≡ written_at sc descriptor from ++ said

-- standard output was given what was written to 1, and standard error what was written to 2, and nothing else
abbrev pub Wrote : Scenario → ℕ → ℕ → Held → Held → Type 0
Wrote sc from to old new =
    (out : List ℕ) × (err : List ℕ) × IsSaid sc 1 from to out × IsSaid sc 2 from to err × Gives old new out err

-- each was given what was written to it before some step, and a front of what that step writes, and nothing else
abbrev pub WroteFront : Scenario → ℕ → Held → Held → Type 0
WroteFront sc from old new =
    (to : ℕ) × (out : List ℕ) × (err : List ℕ) × (sent : ℕ) × (to < sc.step) × IsSaid sc 1 from to out
    × IsSaid sc 2 from to err
    × Gives old new (out ++ take sent (piece_at sc 1 to)) (err ++ take sent (piece_at sc 2 to))

-- ---- how far it runs

-- to the chosen step; or, if it may wait, up to one that asks for more input than there is
abbrev pub StopsAt : Scenario → Bool → ℕ → Type 0
StopsAt sc waits n =
    (n ≡ sc.step) ⊎ ((waits ≡ true) × (n < sc.step) × (sees_end (state_at sc n) sc.setup ≡ true))

-- one that may wait doesn't see the end of the input
abbrev pub LeavesEnd : Scenario → Bool → ℕ → ℕ → Type 0
LeavesEnd sc waits from to =
    waits ≡ true → (state_at sc from).end_seen ≡ false → (state_at sc to).end_seen ≡ false

-- ---- with more input

-- an execution that hasn't seen the end of an empty input is one of the scenario with any input; what the steps up to
-- there write is the same
abbrev pub MovesOn : Type 0
MovesOn =
    (e : Execution) (sc : Scenario) (input : List ℕ) → IsAt e sc → sc.setup.input ≡ []
    → (state_at sc (step_of e)).end_seen ≡ false
    → IsAt e (with_input sc input)
    × ((descriptor : ℕ)
    → written_at sc descriptor (step_of e) ≡ written_at (with_input sc input) descriptor (step_of e))
