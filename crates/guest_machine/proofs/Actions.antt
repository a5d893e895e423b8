-- The state after a step, by what is done in it.
use Rattle.std.proofs.Common.{ℕ, ◌+◌, ◌++◌, Bool, Option, length}
use Rattle.instructions.specs.declared.instruction.Instruction.{Instruction}
use Rattle.guest_machine.specs.State.{State}
use Rattle.guest_machine.specs.Effects.{next_of}
use Rattle.guest_machine.specs.Exec.{Action, counted, action_asks, action_terms, given_at, intake_of}
use Rattle.guest_machine.specs.Exec.{is_heap_action, left_at}
use Rattle.guest_machine.specs.Exec.{outcome, plan, rounded, row_effect, row_uses, seen_also, stepped, taken_from}
use Rattle.guest_machine.specs.Exec.{terms_of}
use Rattle.guest_machine.specs.Exec.{written_to}
use Rattle.guest_machine.specs.declared.setup.Setup.{Setup}

unfoldable pub by : State → Setup → Action → State
by s setup action =
    let terms = action_terms s.core action s.position (length s.output) setup in
    let uses = plan s.core terms action in
    let effect = outcome s.core terms action (given_at s.position terms.intake.count setup)
    (taken_from s.bytes uses.reads) in
    let intake = intake_of (action_asks s.core action) (left_at s.position setup) in
    record {
      bytes = written_to s.bytes uses.writes effect.made;
      core = stepped s.core effect.core;
      position = s.position + intake.count;
      end_seen = seen_also s.end_seen intake.ends;
      output = s.output ++ effect.output;
      heap_calls = counted s.heap_calls (is_heap_action s.core action);
      events = s.events ++ effect.raised;
    }

-- by the instruction that is carried out, the length of its code, whether it calls the heap, and what it asks for
unfoldable pub by-row : State → Setup → ℕ → Option Instruction → Bool → Option ℕ → State
by-row s setup len row heap asks =
    let terms = terms_of heap asks s.position (length s.output) setup in
    let uses = row_uses s.core row terms in
    let effect = rounded s.core len (row_effect s.core (next_of s.core len) row terms
    (given_at s.position terms.intake.count setup) (taken_from s.bytes uses.reads)) in
    let intake = intake_of asks (left_at s.position setup) in
    record {
      bytes = written_to s.bytes uses.writes effect.made;
      core = stepped s.core effect.core;
      position = s.position + intake.count;
      end_seen = seen_also s.end_seen intake.ends;
      output = s.output ++ effect.output;
      heap_calls = counted s.heap_calls heap;
      events = s.events ++ effect.raised;
    }
