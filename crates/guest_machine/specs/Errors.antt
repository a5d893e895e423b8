-- The errors that a step raises (Valgrind user manual, section 4.2). Each has the trace of the instruction: its
-- address, and the sites of the calls that led to it.
use Rattle.std.specs.Prelude.{ℕ, ◌==◌, ◌&&◌, Bool, nat_le, nat_lt, if◌then◌else◌, List, [], ◌∷◌, Option, Some, None}
use Rattle.shadow_memory.specs.Ranges.{little_word, window}
use Rattle.shadow_memory.specs.Shadows.{first_bad, first_inaccessible, loaded_undef}
use Rattle.shadow_memory.specs.declared.cells.Bad.{Bad}
use Rattle.call_stacks.specs.Frames.{trace_at}
use Rattle.error_events.specs.declared.event.Event.{Event}
use Rattle.error_events.specs.declared.event.Note.{Note}
use Rattle.error_events.specs.declared.event.Note.TheVariants.{Absent, Near, Stack, Elsewhere}
use Rattle.call_stacks.specs.declared.block.Near.{Near as NearBlock}
use Rattle.guest_heap.specs.Blocks.{Blocks}
use Rattle.guest_heap.specs.Steps.{near}
use Rattle.error_events.specs.declared.kind.Kind.{Kind}
use Rattle.error_events.specs.declared.kind.Kind.TheVariants.{Value, Param}
use Rattle.error_events.specs.declared.kind.ParameterFault.{ParameterFault}
use Rattle.error_events.specs.declared.kind.ParameterFault.TheVariants.{Contains, Uninit, Unaddressable}
use Rattle.error_events.specs.declared.parameter.Parameter.{Parameter}
use Rattle.guest_machine.specs.State.{Core}
use Rattle.memory_map.specs.declared.regions.StackRegion.{StackRegion}
use Rattle.guest_machine.specs.Registers.{register}

-- where the instruction at pc is
abbrev pub here : Core → List ℕ
here core = trace_at core.pc core.frames

-- an error of a kind, at a trace
abbrev pub event_of : List ℕ → Kind → Note → Event
event_of trace kind note = record { kind = kind; trace = trace; note = note }

-- is an address in the stack region?
abbrev pub in_stack_region : StackRegion → ℕ → Bool
in_stack_region stack a = nat_le stack.begin a && nat_lt a stack.end

-- the note on an address that is near no block
abbrev pub region_note : StackRegion → ℕ → Note
region_note stack a = if in_stack_region stack a then Stack a else Elsewhere a

abbrev pub note_by : StackRegion → ℕ → Option NearBlock → Note
note_by stack a None = region_note stack a
note_by stack a (Some found) = Near a found

-- the note on an address: the kept block whose interval holds it, or else its region
unfoldable pub note_at : StackRegion → Blocks → ℕ → Note
note_at stack blocks a = note_by stack a (near blocks a)

-- an error that isn't about an address, unless all is fine
unfoldable pub event_unless : Bool → List ℕ → Kind → List Event
event_unless fine trace kind = if fine then [] else event_of trace kind Absent ∷ []

-- the error of an address at fault, if there is one
unfoldable pub event_about : StackRegion → Blocks → List ℕ → Kind → Option ℕ → List Event
event_about stack blocks trace kind None = []
event_about stack blocks trace kind (Some a) = event_of trace kind (note_at stack blocks a) ∷ []

-- an error of a kind at a register with an undefined bit
abbrev pub register_errors : Core → ℕ → Kind → List Event
register_errors core r kind = event_unless ((register core r).undef == 0) (here core) kind

-- an address or a jump's target is computed from a register with an undefined bit (section 4.2.2)
abbrev pub value_errors : Core → ℕ → List Event
value_errors core r = register_errors core r Value

-- a parameter of a call has an undefined bit (section 4.2.3)
abbrev pub parameter_errors : Core → ℕ → Parameter → List Event
parameter_errors core r parameter = register_errors core r (Param parameter Contains)

-- the first of n accessed bytes that may not be accessed (section 4.2.1)
abbrev pub access_errors : Core → Kind → ℕ → ℕ → List Event
access_errors core kind start n =
    event_about core.stack core.blocks (here core) kind (first_inaccessible core.shadow start n)

-- what is wrong with a byte of a buffer
abbrev pub fault_of : Bad → ParameterFault
fault_of bad = if bad.accessible then Uninit else Unaddressable

unfoldable pub buffer_event : StackRegion → Blocks → List ℕ → Parameter → Option Bad → List Event
buffer_event stack blocks trace parameter None = []
buffer_event stack blocks trace parameter (Some bad) =
    event_of trace (Param parameter (fault_of bad)) (note_at stack blocks bad.addr) ∷ []

-- the first of the n bytes of a buffer that may not be accessed or, if its value is asked for, has an undefined bit
abbrev pub buffer_errors : Core → Parameter → Bool → ℕ → ℕ → List Event
buffer_errors core parameter need_defined start n =
    buffer_event core.stack core.blocks (here core) parameter (first_bad core.shadow start n need_defined)

-- the undefined bits of n bytes that are loaded as a number
abbrev pub taken_undef : Core → ℕ → ℕ → ℕ
taken_undef core start n = little_word (window (λ a. loaded_undef (core.shadow a)) start n)

-- and of the first bytes at pc
abbrev pub fetch_undef : Core → ℕ → ℕ
fetch_undef core len = taken_undef core core.pc len

-- one of the first bytes at pc, which are fetched, has an undefined bit
abbrev pub fetch_errors : Core → ℕ → List Event
fetch_errors core len = event_unless (fetch_undef core len == 0) (here core) Value
