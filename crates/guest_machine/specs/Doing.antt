-- What the machine's private functions do to the parts that it shows.
use Rattle.std.specs.Prelude.{◌≡◌, ℕ, ◌+◌, true, false, Bool, length, List, [], ◌∷◌, Option, Some, None}
use Rattle.guest_machine.specs.State.{Core}
use Rattle.guest_machine.specs.Effects.{Effect, moved_to, next_of, stored_core}
use Rattle.run_values.specs.declared.span.Span.{Span}
use Rattle.guest_machine.specs.Calls.{read_call, write_call}
use Rattle.guest_machine.specs.HeapCalls.{Resizing, heap_work, heap_call}
use Rattle.guest_machine.specs.NamedCalls.{returns, named_call}
use Rattle.guest_machine.specs.Exec.{Uses, Terms, Intake, no_intake, intake_of, intake_at, seen_also, left_at, row_asks}
use Rattle.guest_machine.specs.Exec.{call_asks, counted, written_to, row_uses, row_effect, rounded, calls_heap}
use Rattle.guest_machine.specs.Exec.{read_uses, write_uses, work_uses, heap_uses, named_uses, moved_from, moved_into}
use Rattle.guest_machine.specs.Exec.{terms_of, given_at, taken_from, is_heap_action, action_at, uses_at, effect_at}
use Rattle.guest_machine.specs.Exec.{outcome_at}
use Rattle.guest_machine.specs.Exec.{Takes, Cut, Halts, fetched, touched_at}
use Rattle.guest_machine.specs.Errors.{fetch_undef}
use Rattle.instructions.specs.Codes.{code_of, len_of, row_of_code}
use Rattle.shadow_memory.specs.Ranges.{byte_of, little_word, window}
use Rattle.guest_machine.specs.Shows.{core_of, bytes_of}
use Rattle.definedness.specs.declared.Bits.{Bits}
use Rattle.error_events.specs.Adding.{add_event}
use Rattle.error_events.specs.Shown.{groups_of}
use Rattle.error_events.specs.declared.event.Event.{Event}
use Rattle.error_events.specs.declared.event.Group.{Group}
use Rattle.guest_elf.specs.declared.hook.Hook.{Hook}
use Rattle.guest_machine.specs.declared.environment_call.EnvironmentCall.TheVariants.{Read}
use Rattle.instructions.specs.declared.instruction.Instruction.{Instruction}
use Rattle.guest_machine.specs.declared.machine.Guest.{Guest}
use Rattle.guest_machine.specs.declared.machine.Noted.{Noted}
use Rattle.guest_machine.specs.declared.machine.fetching.Fetch.{Fetch}
use Rattle.guest_machine.specs.declared.machine.fetching.Fetch.TheVariants.{Whole, First, Nothing}
use Rattle.guest_machine.specs.declared.machine.step.Used.{Used}
use Rattle.guest_machine.specs.declared.setup.Setup.{Setup}
use Rattle.guest_machine.specs.declared.setup.Touched.{Touched}

-- the groups of the errors so far, and whether one was raised in this step
abbrev pub noted_of : Noted → List Group × Bool
noted_of noted = (groups_of noted.groups, noted.raised)

-- these errors noted, one after another
unfoldable pub note_events : List Group × Bool → List Event → List Group × Bool
note_events noted [] = noted
note_events noted (e ∷ es) = note_events (add_event noted.0 e, true) es

-- the errors are noted after the earlier ones
abbrev pub Raises : Guest → Guest → List Event → Type 0
Raises old new events = noted_of new.noted ≡ note_events (noted_of old.noted) events

-- registers, pc, status and frames are set to these, and nothing else is changed
pub record Sets (old new : Guest) (made : Core) : Type 0 where
  pub core : core_of new ≡ made
  pub memory : new.memory ≡ old.memory
  pub progress : new.progress ≡ old.progress
  pub heap : new.heap ≡ old.heap
  pub noted : new.noted ≡ old.noted

-- and these errors are noted
pub record Notes (old new : Guest) (made : Core) (events : List Event) : Type 0 where
  pub core : core_of new ≡ made
  pub memory : new.memory ≡ old.memory
  pub progress : new.progress ≡ old.progress
  pub heap : new.heap ≡ old.heap
  pub noted : Raises old new events

-- memory, registers, frames and blocks are changed to these, and nothing else is
pub record Changes (old new : Guest) (made : Core) (stored : ℕ → ℕ) : Type 0 where
  pub core : core_of new ≡ made
  pub bytes : bytes_of new ≡ stored
  pub progress : new.progress ≡ old.progress
  pub noted : new.noted ≡ old.noted

-- and these errors are noted too
pub record Reports (old new : Guest) (made : Core) (stored : ℕ → ℕ) (events : List Event) : Type 0 where
  pub core : core_of new ≡ made
  pub bytes : bytes_of new ≡ stored
  pub progress : new.progress ≡ old.progress
  pub noted : Raises old new events

-- new is old after this effect, with these uses; a heap call is counted, and so are the bytes given of the input
pub record Does (old new : Guest) (effect : Effect) (uses : Uses) (heap : Bool) (intake : Intake) : Type 0 where
  pub core : core_of new ≡ effect.core
  pub bytes : bytes_of new ≡ written_to (bytes_of old) uses.writes effect.made
  pub position : new.progress.position ≡ old.progress.position + intake.count
  pub end_seen : new.progress.end_seen ≡ seen_also old.progress.end_seen intake.ends
  pub output : new.progress.output_len ≡ old.progress.output_len + length effect.output
  pub heap_calls : new.progress.heap_calls ≡ counted old.progress.heap_calls heap
  pub noted : Raises old new effect.raised

-- this is what may be fetched at pc, with its undefined bits
abbrev pub IsFetch : Core → (ℕ → ℕ) → Fetch → Type 0
IsFetch core bytes (Whole code undef) =
    (fetched core bytes ≡ Takes code) × (undef ≡ fetch_undef core (len_of code))
IsFetch core bytes (First undef) = (fetched core bytes ≡ Cut) × (undef ≡ fetch_undef core 2)
IsFetch core bytes Nothing = fetched core bytes ≡ Halts

-- a code of this length may be fetched at pc, is defined, and decodes to this instruction
pub record IsDecoded (core : Core) (bytes : ℕ → ℕ) (len : ℕ) (instruction : Instruction) : Type 0 where
  pub taken : fetched core bytes ≡ Takes (code_of len (little_word (window bytes core.pc len)))
  pub row : row_of_code (code_of len (little_word (window bytes core.pc len))) ≡ Some instruction
  pub undef : fetch_undef core len ≡ 0

-- the effect of a store of a number at n bytes, with these errors; and without errors
abbrev pub storing : Core → ℕ → ℕ → ℕ → Bits → List Event → Effect
storing core next start n bits raised = record {
  core = moved_to (stored_core core start n bits.undef) next;
  raised = raised;
  made = byte_of bits.value;
  output = [];
}

abbrev pub stored_at : Core → ℕ → ℕ → ℕ → Bits → Effect
stored_at core next start n bits = storing core next start n bits []

-- uses, as the code has them
abbrev pub used_of : Uses → Used
used_of uses = record { reads = uses.reads; writes = uses.writes }

-- these, besides the word that was fetched, if one was
abbrev pub touched_in : Used → Option Span → Touched
touched_in used fetch = record { fetch = fetch; reads = used.reads; writes = used.writes }

-- those of a block that goes to a place for another size
abbrev pub used_in_move : Resizing → ℕ → ℕ → Used
used_in_move what p size = record { reads = moved_from what p size; writes = moved_into what size }

-- an instruction that a machine executes: what it sees of the setup, what it uses, and that new is old after it, by the
-- address after the instruction
abbrev pub row_terms : Guest → Option Instruction → Setup → Terms
row_terms m row setup =
    terms_of (calls_heap (core_of m) row) (row_asks (core_of m) row) m.progress.position m.progress.output_len setup

abbrev pub uses_by : Guest → Option Instruction → Setup → Uses
uses_by m row setup = row_uses (core_of m) row (row_terms m row setup)

abbrev pub DoesRow : Guest → Guest → ℕ → Option Instruction → Setup → Type 0
DoesRow old new next row setup =
    let uses = uses_by old row setup in
    let intake = (row_terms old row setup).intake in
    let given = given_at old.progress.position intake.count setup in
    Does old new
    (row_effect (core_of old) next row (row_terms old row setup) given (taken_from (bytes_of old) uses.reads)) uses
    (calls_heap (core_of old) row) intake

-- the same between the test of its code, of this length, and the stack pointer rule
abbrev pub DoesDecoded : Guest → Guest → ℕ → Option Instruction → Setup → Type 0
DoesDecoded old new len row setup =
    let uses = uses_by old row setup in
    let intake = (row_terms old row setup).intake in
    let given = given_at old.progress.position intake.count setup in
    let effect =
    row_effect (core_of old) (next_of (core_of old) len) row (row_terms old row setup) given
    (taken_from (bytes_of old) uses.reads) in
    Does old new (rounded (core_of old) len effect) uses (calls_heap (core_of old) row) intake

-- a step of a machine but for the number of steps
abbrev pub DoesAction : Guest → Guest → Setup → Type 0
DoesAction old new setup =
    let progress = old.progress in
    Does old new
    (outcome_at (core_of old) (bytes_of old) progress.position progress.output_len setup)
    (uses_at (core_of old) (bytes_of old) progress.position progress.output_len setup)
    (is_heap_action (core_of old) (action_at (core_of old) (bytes_of old) setup.hooks))
    (intake_at (core_of old) (bytes_of old) progress.position setup)

-- a whole step of a machine, and what it touches
abbrev pub DoesStep : Guest → Guest → Setup → Type 0
DoesStep old new setup =
    let progress = old.progress in
    Does old new
    (effect_at (core_of old) (bytes_of old) progress.position progress.output_len setup)
    (uses_at (core_of old) (bytes_of old) progress.position progress.output_len setup)
    (is_heap_action (core_of old) (action_at (core_of old) (bytes_of old) setup.hooks))
    (intake_at (core_of old) (bytes_of old) progress.position setup)

abbrev pub touched_by : Guest → Setup → Touched
touched_by m setup = touched_at (core_of m) (bytes_of m) m.progress.position m.progress.output_len setup

-- read and write, executed, and what read is given of the input
abbrev pub read_intake : Guest → Setup → Intake
read_intake m setup = intake_of (call_asks (core_of m) Read) (left_at m.progress.position setup)

abbrev pub DoesRead : Guest → Guest → ℕ → Setup → Type 0
DoesRead old new next setup =
    let intake = read_intake old setup in
    Does old new (read_call (core_of old) next intake.count (given_at old.progress.position intake.count setup))
    (read_uses (core_of old) intake.count) false intake

abbrev pub DoesWrite : Guest → Guest → ℕ → Type 0
DoesWrite old new next =
    let uses = write_uses (core_of old) old.progress.output_len in
    Does old new (write_call (core_of old) next old.progress.output_len (taken_from (bytes_of old) uses.reads)) uses
    false no_intake

-- what a heap call does; and the call by number, and by name
abbrev pub DoesWork : Guest → Guest → Hook → ℕ → ℕ → Setup → Type 0
DoesWork old new function x y setup =
    let uses = work_uses function (core_of old).blocks x y setup.redzone in
    Does old new (heap_work function (core_of old) x y setup.redzone setup.volume
    (taken_from (bytes_of old) uses.reads)) uses true no_intake

abbrev pub DoesHeapCall : Guest → Guest → ℕ → Hook → Setup → Type 0
DoesHeapCall old new next function setup =
    let uses = heap_uses function (core_of old) setup.redzone in
    Does old new
    (heap_call function (core_of old) next setup.redzone setup.volume (taken_from (bytes_of old) uses.reads)) uses true
    no_intake

abbrev pub named_terms : Guest → Setup → Terms
named_terms m setup = terms_of (returns (core_of m)) None m.progress.position m.progress.output_len setup

abbrev pub uses_by_name : Guest → Hook → Setup → Uses
uses_by_name m function setup = named_uses function (core_of m) (named_terms m setup).redzone

abbrev pub DoesNamed : Guest → Guest → Hook → Setup → Type 0
DoesNamed old new function setup =
    let terms = named_terms old setup in
    let uses = uses_by_name old function setup in
    Does old new (named_call function (core_of old) terms.redzone terms.volume (taken_from (bytes_of old) uses.reads))
    uses (returns (core_of old)) no_intake
