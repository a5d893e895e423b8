-- What the steps of a run do that a strip of it shows: calls and returns, heap calls, input that is read, output that
-- is written.
use Rattle.std.specs.Prelude.{ℕ, ◌++◌, ◌-◌, if◌then◌else◌, is_some, length, nat_lt, zero, suc, List, []}
use Rattle.std.specs.Prelude.{Option, Some, None, option_map, option_to_list}
use Rattle.guest_elf.specs.Hooks.{hook_at}
use Rattle.guest_machine.specs.State.{State}
use Rattle.guest_machine.specs.Exec.{exec}
use Rattle.guest_machine.specs.Run.{post}
use Rattle.guest_machine.specs.declared.setup.Setup.{Setup}
use Rattle.run_values.specs.declared.alteration.Alteration.{Alteration}
use Rattle.checkpoints.specs.declared.happenings.Counts.{Counts}
use Rattle.checkpoints.specs.declared.happenings.Happened.{Happened}
use Rattle.checkpoints.specs.declared.happenings.Happening.{Happening}
use Rattle.checkpoints.specs.declared.happenings.Happening.TheVariants.{Call, Return, Heap, Input, Output}

-- ---- a step

-- what is counted of a state: its heap calls, the frames of the calls that it is in, the bytes that it has read, and
-- those that it has written
abbrev pub counts_of : State → Counts
counts_of s = record {
  heap_calls = s.heap_calls;
  depth = length s.core.frames;
  position = s.position;
  output = length s.output;
}

-- a call, unless it is that of a function of the heap that is called by name: the next step is that function, and
-- returns at once
abbrev pub entered : Setup → ℕ → ℕ → Option Happening
entered setup pc depth = if is_some (hook_at setup.hooks pc) then None else Some (Call pc depth)

-- what happens in a step that leaves pc at an address, by the counts before and after it: the first of these that
-- applies. A call and a return are what the stack of frames shows: it has 256 frames at most, and a return may leave
-- several
unfoldable pub what_happens : Setup → ℕ → Counts → Counts → Option Happening
what_happens setup pc old new =
    if nat_lt old.heap_calls new.heap_calls then Some (Heap new.depth)
    else if nat_lt old.depth new.depth then entered setup pc new.depth
    else if nat_lt new.depth old.depth then Some (Return pc new.depth)
    else if nat_lt old.position new.position then Some (Input (new.position - old.position))
    else if nat_lt old.output new.output then Some (Output (new.output - old.output))
    else None

-- what happens in a step, by the states before and after it
abbrev pub happened_by : ℕ → Setup → State → State → Option Happened
happened_by step setup s t =
    option_map (λ what. record { step = step; what = what }) (what_happens setup t.core.pc (counts_of s) (counts_of t))

-- what happens in the step of a state
abbrev pub happened_at : ℕ → State → Setup → Option Happened
happened_at step s setup = happened_by step setup s (exec s setup)

-- ---- a run

-- what happens in the steps of a run from one on, below another, in order
unfoldable pub happened_between : State → Setup → List Alteration → ℕ → ℕ → List Happened
happened_between start setup marks from zero = []
happened_between start setup marks from (suc k) =
    if nat_lt k from then [] else
    happened_between start setup marks from k ++ option_to_list (happened_at k (post start setup marks k) setup)
