-- One step, in three parts: what it does, by the code at pc and the functions that are called by name; what it uses, by
-- this and what decides the step; and what it leaves, by these, the input that it gets and the bytes that it reads. It
-- depends on no other byte value and no other part of the setup.
use Rattle.std.specs.Prelude.{nat_lt, ℕ, ◌+◌, ◌-◌, ◌*◌, ◌%◌, ◌^◌, ◌==◌, ◌&&◌, ◌||◌, Bool, true, false, if◌then◌else◌}
use Rattle.std.specs.Prelude.{List, ◌++◌, take, drop, length, min, Option, Some, None, is_none}
use Rattle.shadow_memory.specs.Ranges.{window, little_word, written}
use Rattle.guest_machine.specs.Spans.{span_at, covers}
use Rattle.shadow_memory.specs.Shadows.{first_inaccessible}
use Rattle.instructions.specs.Widths.{width_len}
use Rattle.guest_machine.specs.State.{Core, State}
use Rattle.instructions.specs.Codes.{len_of, row_of_code}
use Rattle.guest_machine.specs.Effects.{Effect, no_bytes, quiet, raising, moved_to, stopped, target, load_upper}
use Rattle.guest_machine.specs.Effects.{add_upper, compute_immediate, compute, load, store, branch, jump, jump_register}
use Rattle.guest_machine.specs.Effects.{next_of, stops}
use Rattle.guest_machine.specs.Atomics.{atomic_effect, atomic_reads, atomic_writes}
use Rattle.guest_machine.specs.Controls.{barrier, control_effect}
use Rattle.guest_machine.specs.Calls.{argument, call_at, is_heap, moved_len, appends, read_call, write_call, exit_call}
use Rattle.guest_machine.specs.Calls.{unknown_call}
use Rattle.guest_elf.specs.Hooks.{hook_at}
use Rattle.guest_elf.specs.Profiles.{has_controls, is_aligned, is_half, unit}
use Rattle.guest_machine.specs.NamedCalls.{returns, named_call}
use Rattle.guest_machine.specs.Errors.{here, event_about, fetch_errors}
use Rattle.guest_machine.specs.StackPointer.{stack_ruled}
use Rattle.guest_machine.specs.Registers.{register}
use Rattle.guest_machine.specs.declared.environment_call.EnvironmentCall.{EnvironmentCall}
use Rattle.guest_machine.specs.declared.environment_call.EnvironmentCall.TheVariants.{Read as ReadCall}
use Rattle.guest_machine.specs.declared.environment_call.EnvironmentCall.TheVariants.{Write as WriteCall}
use Rattle.guest_machine.specs.declared.environment_call.EnvironmentCall.TheVariants.{Exit as ExitCall}
use Rattle.guest_machine.specs.declared.environment_call.EnvironmentCall.TheVariants.{ExitGroup as ExitGroupCall}
use Rattle.guest_machine.specs.declared.environment_call.EnvironmentCall.TheVariants.{Heap as HeapCall}
use Rattle.guest_machine.specs.declared.environment_call.EnvironmentCall.TheVariants.{Unknown as UnknownCall}
use Rattle.std.specs.Option.{option_map}
use Rattle.guest_elf.specs.declared.hook.Hook.{Hook}
use Rattle.guest_elf.specs.declared.hook.Hook.TheVariants.{Malloc, Free, Calloc, Realloc}
use Rattle.guest_heap.specs.Blocks.{Blocks}
use Rattle.guest_heap.specs.Steps.{place}
use Rattle.guest_machine.specs.HeapCalls.{Resizing, Moves, resizing, moved_size, heap_call}
use Rattle.instructions.specs.declared.width.Width.{Width}
use Rattle.instructions.specs.declared.code.Code.{Code}
use Rattle.instructions.specs.declared.code.Code.TheVariants.{Word, Half}
use Rattle.run_values.specs.declared.span.Span.{Span}
use Rattle.guest_machine.specs.declared.setup.Setup.{Setup}
use Rattle.guest_machine.specs.declared.setup.Touched.{Touched}
use Rattle.instructions.specs.declared.instruction.Instruction.{Instruction}
use Rattle.instructions.specs.declared.instruction.Instruction.TheVariants.{LoadUpper, AddUpper, Jump, JumpRegister}
use Rattle.instructions.specs.declared.instruction.Instruction.TheVariants.{Branch, Load, Store, Immediate, Registers}
use Rattle.instructions.specs.declared.instruction.Instruction.TheVariants.{Fence, CallEnvironment as CallRow}
use Rattle.instructions.specs.declared.instruction.Instruction.TheVariants.{Breakpoint, LoadReserved}
use Rattle.instructions.specs.declared.instruction.Instruction.TheVariants.{StoreConditional, Update as UpdateRow}
use Rattle.instructions.specs.declared.instruction.Instruction.TheVariants.{Control, Barrier}
use Rattle.instructions.specs.declared.atomic.Atomic.{Atomic}
use Rattle.instructions.specs.declared.atomic.Atomic.TheVariants as atomics
use Rattle.run_values.specs.declared.status.Status.{Status}
use Rattle.run_values.specs.declared.status.Status.TheVariants.{Running, Exited, Stopped}
use Rattle.run_values.specs.declared.status.Stop.TheVariants.{Jump as JumpStop, Break, Illegal, Misaligned}
use Rattle.error_events.specs.declared.kind.Kind.TheVariants.{Jump as JumpError}

-- the code at pc --

abbrev pub is_running : Status → Bool
is_running Running = true
is_running (Exited code) = false
is_running (Stopped stop) = false

-- it runs, and an instruction may begin at pc
abbrev pub is_ready : Core → Bool
is_ready core = is_running core.status && is_aligned core.isa core.pc

-- the number in the first two bytes at pc, and in the first four
abbrev pub half_at : Core → (ℕ → ℕ) → ℕ
half_at core bytes = little_word (window bytes core.pc 2)

abbrev pub word_at : Core → (ℕ → ℕ) → ℕ
word_at core bytes = little_word (window bytes core.pc 4)

-- the first inaccessible one of as many bytes at pc as the shortest instructions have, and of the four there
abbrev pub fetch_fault : Core → Option ℕ
fetch_fault core = first_inaccessible core.shadow core.pc (unit core.isa)

abbrev pub word_fault : Core → Option ℕ
word_fault core = first_inaccessible core.shadow core.pc 4

-- may as many be fetched?
unfoldable pub fetches : Core → Bool
fetches core = is_running core.status && (is_aligned core.isa core.pc && is_none (fetch_fault core))

-- what a step does --

-- it fetches a code, and executes it; or it fetches the first half of a word and can't fetch the second; or it does the
-- heap call in place of a function, which is called by name; or none of these
pub data Action : Type 0 where
  Takes : Code → Action
  Cut : Action
  CallsByName : Hook → Action
  Halts : Action

-- by whether a first part may be fetched, whether it is a half, and whether the whole word may be fetched
abbrev pub fetch_by : Bool → Bool → Bool → ℕ → ℕ → Action
fetch_by false short whole half word = Halts
fetch_by true true whole half word = Takes (Half half)
fetch_by true false true half word = Takes (Word word)
fetch_by true false false half word = Cut

-- what a step does that calls no function by name
unfoldable pub fetched : Core → (ℕ → ℕ) → Action
fetched core bytes =
    fetch_by (fetches core) (is_half core.isa (half_at core bytes)) (is_none (word_fault core)) (half_at core bytes)
    (word_at core bytes)

-- the function that is called by name: the one that begins at pc
unfoldable pub called_here : Core → List (ℕ × Hook) → Option Hook
called_here core hooks = if is_ready core then hook_at hooks core.pc else None

-- a function is called before its code is looked at
abbrev pub action_by : Option Hook → Action → Action
action_by (Some function) action = CallsByName function
action_by None action = action

abbrev pub action_at : Core → (ℕ → ℕ) → List (ℕ × Hook) → Action
action_at core bytes hooks = action_by (called_here core hooks) (fetched core bytes)

-- the code that is fetched, if it is
abbrev pub code_in : Action → Option Code
code_in (Takes code) = Some code
code_in Cut = None
code_in (CallsByName function) = None
code_in Halts = None

-- what a step uses --

-- the range of bytes that it reads and the one that it writes, if any
pub record Uses : Type 0 where
  pub reads : Option Span
  pub writes : Option Span

-- what a step is given of the input: the number of bytes, and whether it sees the end, if it is given fewer than it
-- asks for
pub record Intake : Type 0 where
  pub count : ℕ
  pub ends : Bool

abbrev pub no_intake : Intake
no_intake = record { count = 0; ends = false }

-- by how much it asks for, if it asks, and how much is left
abbrev pub intake_of : Option ℕ → ℕ → Intake
intake_of None left = no_intake
intake_of (Some asked) left = record { count = min asked left; ends = nat_lt (min asked left) asked }

-- what a step may see of the setup and of what only increases: what it is given of the input, how much output there is,
-- and, only at a heap call, the redzone and the volume
pub record Terms : Type 0 where
  pub intake : Intake
  pub written : ℕ
  pub redzone : ℕ
  pub volume : ℕ

abbrev pub nothing : Uses
nothing = record { reads = None; writes = None }

-- only a range read, and only a range written
abbrev pub reading : Span → Uses
reading span = record { reads = Some span; writes = None }

abbrev pub writing : Span → Uses
writing span = record { reads = None; writes = Some span }

-- the bytes that a load or a store accesses
abbrev pub accessed : Core → ℕ → ℕ → Width → Span
accessed core rs1 imm width = span_at (target core rs1 imm) (width_len width)

-- an atomic instruction
abbrev pub atomic_uses : Core → Atomic → ℕ → Uses
atomic_uses core atomic rs1 = record { reads = atomic_reads core atomic rs1; writes = atomic_writes core atomic rs1 }

-- read stores what it is given of the input
abbrev pub read_uses : Core → ℕ → Uses
read_uses core count =
    record { reads = None; writes = if argument core 10 == 0 then Some (span_at (argument core 11) count) else None }

-- write reads what it appends
abbrev pub write_uses : Core → ℕ → Uses
write_uses core written =
    record {
      reads = if appends core written then Some (span_at (argument core 11) (moved_len core))
          else None;
      writes = None;
    }

-- calloc writes its zeros
abbrev pub calloc_uses : Blocks → ℕ → ℕ → Uses
calloc_uses blocks size redzone =
    record { reads = None; writes = option_map (λ p. span_at p size) (place blocks size redzone) }

-- realloc reads the bytes that are moved, and writes them at their new place
abbrev pub moved_from : Resizing → ℕ → ℕ → Option Span
moved_from (Moves b q) p size = Some (span_at p (moved_size b size))
moved_from _ p size = None

abbrev pub moved_into : Resizing → ℕ → Option Span
moved_into (Moves b q) size = Some (span_at q (moved_size b size))
moved_into _ size = None

abbrev pub realloc_uses : Blocks → ℕ → ℕ → ℕ → Uses
realloc_uses blocks p size redzone =
    let what = resizing blocks p size redzone in
    record { reads = moved_from what p size; writes = moved_into what size }

-- a heap call, with the values of a0 and a1
unfoldable pub work_uses : Hook → Blocks → ℕ → ℕ → ℕ → Uses
work_uses Malloc blocks x y redzone = nothing
work_uses Free blocks x y redzone = nothing
work_uses Calloc blocks x y redzone = calloc_uses blocks (x * y) redzone
work_uses Realloc blocks x y redzone = realloc_uses blocks x y redzone

abbrev pub heap_uses : Hook → Core → ℕ → Uses
heap_uses function core redzone = work_uses function core.blocks (argument core 10) (argument core 11) redzone

-- one by name, which does its work only if it returns
unfoldable pub named_uses_by : Bool → Hook → Core → ℕ → Uses
named_uses_by true function core redzone = heap_uses function core redzone
named_uses_by false function core redzone = nothing

abbrev pub named_uses : Hook → Core → ℕ → Uses
named_uses function core redzone = named_uses_by (returns core) function core redzone

-- what a call uses
unfoldable pub call_uses : Core → EnvironmentCall → Terms → Uses
call_uses core ReadCall terms = read_uses core terms.intake.count
call_uses core WriteCall terms = write_uses core terms.written
call_uses core ExitCall terms = nothing
call_uses core ExitGroupCall terms = nothing
call_uses core (HeapCall function) terms = heap_uses function core terms.redzone
call_uses core UnknownCall terms = nothing

-- does a row call the heap?
unfoldable pub calls_heap : Core → Option Instruction → Bool
calls_heap core (Some CallRow) = is_heap (call_at core)
calls_heap core _ = false

-- how much of the input a call asks for: read does so, for descriptor 0
unfoldable pub call_asks : Core → EnvironmentCall → Option ℕ
call_asks core ReadCall = if argument core 10 == 0 then Some (moved_len core) else None
call_asks core _ = None

-- and an instruction
unfoldable pub row_asks : Core → Option Instruction → Option ℕ
row_asks core (Some CallRow) = call_asks core (call_at core)
row_asks core _ = None

-- what an instruction reads, writes and gets of the input
unfoldable pub row_uses : Core → Option Instruction → Terms → Uses
row_uses core (Some (Load width signed rd rs1 imm)) terms = reading (accessed core rs1 imm width)
row_uses core (Some (Store width rs1 rs2 imm)) terms = writing (accessed core rs1 imm width)
row_uses core (Some CallRow) terms = call_uses core (call_at core) terms
row_uses core (Some (LoadReserved rd rs1)) terms = atomic_uses core atomics.LoadReserved rs1
row_uses core (Some (StoreConditional rd rs1 rs2)) terms = atomic_uses core atomics.StoreConditional rs1
row_uses core (Some (UpdateRow update rd rs1 rs2)) terms = atomic_uses core (atomics.Update update) rs1
row_uses core _ terms = nothing

-- what a step leaves --

-- by the address after the instruction
unfoldable pub call_effect : Core → ℕ → EnvironmentCall → Terms → List ℕ → (ℕ → ℕ) → Effect
call_effect core next ReadCall terms given taken = read_call core next terms.intake.count given
call_effect core next WriteCall terms given taken = write_call core next terms.written taken
call_effect core next ExitCall terms given taken = exit_call core ExitCall
call_effect core next ExitGroupCall terms given taken = exit_call core ExitGroupCall
call_effect core next (HeapCall function) terms given taken =
    heap_call function core next terms.redzone terms.volume taken
call_effect core next UnknownCall terms given taken = unknown_call core next

unfoldable pub row_effect : Core → ℕ → Option Instruction → Terms → List ℕ → (ℕ → ℕ) → Effect
row_effect core next None terms given taken = stops core Illegal
row_effect core next (Some (LoadUpper rd imm)) terms given taken = load_upper core next rd imm
row_effect core next (Some (AddUpper rd imm)) terms given taken = add_upper core next rd imm
row_effect core next (Some (Jump rd imm)) terms given taken = jump core next rd imm
row_effect core next (Some (JumpRegister rd rs1 imm)) terms given taken = jump_register core next rd rs1 imm
row_effect core next (Some (Branch test rs1 rs2 imm)) terms given taken = branch core next test rs1 rs2 imm
row_effect core next (Some (Load width signed rd rs1 imm)) terms given taken =
    load core next width signed rd rs1 imm taken
row_effect core next (Some (Store width rs1 rs2 imm)) terms given taken = store core next width rs1 rs2 imm
row_effect core next (Some (Immediate operation rd rs1 imm)) terms given taken =
    compute_immediate core next operation rd rs1 imm
row_effect core next (Some (Registers operation rd rs1 rs2)) terms given taken = compute core next operation rd rs1 rs2
row_effect core next (Some Fence) terms given taken = quiet (moved_to core next)
row_effect core next (Some CallRow) terms given taken = call_effect core next (call_at core) terms given taken
row_effect core next (Some Breakpoint) terms given taken = stops core Break
row_effect core next (Some (LoadReserved rd rs1)) terms given taken =
    atomic_effect core next atomics.LoadReserved rd rs1 0 taken
row_effect core next (Some (StoreConditional rd rs1 rs2)) terms given taken =
    atomic_effect core next atomics.StoreConditional rd rs1 rs2 taken
row_effect core next (Some (UpdateRow update rd rs1 rs2)) terms given taken =
    atomic_effect core next (atomics.Update update) rd rs1 rs2 taken
row_effect core next (Some (Control access rd number operand)) terms given taken =
    control_effect core next access rd number operand
row_effect core next (Some Barrier) terms given taken = barrier core next

-- a fetch that meets an inaccessible byte
abbrev pub jump_fault : Core → Option ℕ → Effect
jump_fault core None = quiet core
jump_fault core (Some a) =
    raising (stopped core JumpStop) (event_about core.stack core.blocks (here core) JumpError (Some a))

-- a fetch of a word of which only the first half may be accessed; the half is tested, as it says that there is a second
abbrev pub cut : Core → Effect
cut core =
    let e = jump_fault core (word_fault core) in
    record { core = e.core; raised = fetch_errors core 2 ++ e.raised; made = e.made; output = e.output }

-- what a step leaves that does none of these: a stopped or exited machine is its own successor
unfoldable pub unfetched : Core → Effect
unfetched core =
    if is_running core.status
    then (if is_aligned core.isa core.pc then jump_fault core (fetch_fault core) else stops core Misaligned)
    else quiet core

-- the three parts together --

-- is it a heap call? A call by name is one if it returns
abbrev pub is_heap_action : Core → Action → Bool
is_heap_action core (Takes code) = calls_heap core (row_of_code code)
is_heap_action core Cut = false
is_heap_action core (CallsByName function) = returns core
is_heap_action core Halts = false

abbrev pub plan : Core → Terms → Action → Uses
plan core terms (Takes code) = row_uses core (row_of_code code) terms
plan core terms Cut = nothing
plan core terms (CallsByName function) = named_uses function core terms.redzone
plan core terms Halts = nothing

-- between the test of a code of this length and the stack pointer rule
abbrev pub rounded : Core → ℕ → Effect → Effect
rounded core len e =
    record {
      core = stack_ruled (register core 2) e.core;
      raised = fetch_errors core len ++ e.raised;
      made = e.made;
      output = e.output;
    }

-- a call by name leaves the stack pointer, and so needs no rule for it
abbrev pub outcome : Core → Terms → Action → List ℕ → (ℕ → ℕ) → Effect
outcome core terms (Takes code) given taken =
    rounded core (len_of code)
    (row_effect core (next_of core (len_of code)) (row_of_code code) terms given taken)
outcome core terms Cut given taken = cut core
outcome core terms (CallsByName function) given taken = named_call function core terms.redzone terms.volume taken
outcome core terms Halts given taken = unfetched core

-- how much of the input a step asks for, if it asks
abbrev pub action_asks : Core → Action → Option ℕ
action_asks core (Takes code) = row_asks core (row_of_code code)
action_asks core Cut = None
action_asks core (CallsByName function) = None
action_asks core Halts = None

-- how much of the input is left
abbrev pub left_at : ℕ → Setup → ℕ
left_at position setup = length setup.input - position

-- what a step sees of the setup, by whether it is a heap call and what it asks for
abbrev pub terms_of : Bool → Option ℕ → ℕ → ℕ → Setup → Terms
terms_of heap asks position written setup =
    record {
      intake = intake_of asks (left_at position setup);
      written = written;
      redzone = if heap then setup.redzone else 0;
      volume = if heap then setup.volume else 0;
    }

-- and by what it does
abbrev pub action_terms : Core → Action → ℕ → ℕ → Setup → Terms
action_terms core action position written setup =
    terms_of (is_heap_action core action) (action_asks core action) position written setup

-- a number of bytes of the input, from a position on
abbrev pub given_at : ℕ → ℕ → Setup → List ℕ
given_at position n setup = take n (drop position setup.input)

-- the bytes of a range by their offsets, if there is one
abbrev pub taken_from : (ℕ → ℕ) → Option Span → ℕ → ℕ
taken_from bytes None = no_bytes
taken_from bytes (Some span) = window bytes span.start span.len

-- the bytes with those of a range written, if there is one
abbrev pub written_to : (ℕ → ℕ) → Option Span → (ℕ → ℕ) → ℕ → ℕ
written_to bytes None made = bytes
written_to bytes (Some span) made = written bytes span.start span.len made

-- what a step uses, at a core, byte values, a position in the input and a length of output
unfoldable pub uses_at : Core → (ℕ → ℕ) → ℕ → ℕ → Setup → Uses
uses_at core bytes position written setup =
    let action = action_at core bytes setup.hooks in plan core (action_terms core action position written setup) action

-- what it is given of the input
unfoldable pub intake_at : Core → (ℕ → ℕ) → ℕ → Setup → Intake
intake_at core bytes position setup =
    intake_of (action_asks core (action_at core bytes setup.hooks)) (left_at position setup)

-- what it leaves but for the number of steps
unfoldable pub outcome_at : Core → (ℕ → ℕ) → ℕ → ℕ → Setup → Effect
outcome_at core bytes position written setup =
    let action = action_at core bytes setup.hooks in
    let terms = action_terms core action position written setup in
    outcome core terms action (given_at position terms.intake.count setup)
    (taken_from bytes (plan core terms action).reads)

-- the number of steps after another one, if there are counters, which have 64 bits; and after a step, which counts if
-- an instruction may begin at pc
abbrev pub steps_on : Core → ℕ
steps_on core = if has_controls core.isa then (core.steps + 1) % 2 ^ 64 else core.steps

abbrev pub stepped : Core → Core → Core
stepped core after = record after { steps = if is_ready core then steps_on after else after.steps }

abbrev pub counting : Core → Effect → Effect
counting core e = record { core = stepped core e.core; raised = e.raised; made = e.made; output = e.output }

-- and what it leaves
unfoldable pub effect_at : Core → (ℕ → ℕ) → ℕ → ℕ → Setup → Effect
effect_at core bytes position written setup = counting core (outcome_at core bytes position written setup)

-- a count with another item; it stops at the greatest 64-bit number
abbrev pub counted : ℕ → Bool → ℕ
counted n false = n
counted n true = min (n + 1) 18446744073709551615

-- the end of the input, once seen, stays seen
abbrev pub seen_also : Bool → Bool → Bool
seen_also seen false = seen
seen_also seen true = true

-- one step
unfoldable pub exec : State → Setup → State
exec s setup =
    let intake = intake_at s.core s.bytes s.position setup in
    let uses = uses_at s.core s.bytes s.position (length s.output) setup in
    let effect = effect_at s.core s.bytes s.position (length s.output) setup in
    record {
      bytes = written_to s.bytes uses.writes effect.made;
      core = effect.core;
      position = s.position + intake.count;
      end_seen = seen_also s.end_seen intake.ends;
      output = s.output ++ effect.output;
      heap_calls = counted s.heap_calls (is_heap_action s.core (action_at s.core s.bytes setup.hooks));
      events = s.events ++ effect.raised;
    }

-- which addresses a step touches --

-- the addresses of the code at pc, if it is fetched, and of a half that is; what that holds decides the step
abbrev pub fetch_span : Core → Action → Option Span
fetch_span core (Takes code) = Some (span_at core.pc (len_of code))
fetch_span core Cut = Some (span_at core.pc 2)
fetch_span core (CallsByName function) = None
fetch_span core Halts = None

-- the ranges whose bytes a step reads or writes
unfoldable pub touched_at : Core → (ℕ → ℕ) → ℕ → ℕ → Setup → Touched
touched_at core bytes position written setup =
    let uses = uses_at core bytes position written setup in
    record { fetch = fetch_span core (action_at core bytes setup.hooks); reads = uses.reads; writes = uses.writes }

-- is an address among those of three ranges?
abbrev pub has_touched : Touched → ℕ → Bool
has_touched t a = covers t.fetch a || (covers t.reads a || covers t.writes a)

-- those of the step of a state
abbrev pub touched_of : State → Setup → Touched
touched_of s setup = touched_at s.core s.bytes s.position (length s.output) setup

-- does the step of a state read or write the byte at an address?
unfoldable pub touches : State → Setup → ℕ → Bool
touches s setup = has_touched (touched_of s setup)
