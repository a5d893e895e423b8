-- A machine that doesn't run stays as it is, and touches nothing.
use Rattle.std.proofs.Common.{◌≡◌, ℕ, ◌+◌, ◌++◌, ◌&&◌, List, length, false, cond, None, ap, ◌∙◌, add-zero}
use Rattle.std.proofs.Common.{append-nil}
use Rattle.std.specs.Prelude.{is_none}
use Rattle.guest_elf.specs.declared.hook.Hook.{Hook}
use Rattle.guest_elf.specs.Hooks.{hook_at}
use Rattle.guest_elf.specs.Profiles.{is_aligned, is_half}
use Rattle.guest_machine.specs.State.{State, Core}
use Rattle.guest_machine.specs.Exec.{exec, touches, touched_at, uses_at, intake_at, effect_at, has_touched, Action}
use Rattle.guest_machine.specs.Exec.{outcome_at, stepped, steps_on}
use Rattle.guest_machine.specs.Exec.{action_by, action_at, called_here, fetched, fetches}
use Rattle.guest_machine.specs.Exec.{fetch_by, half_at, word_at, word_fault}
use Rattle.guest_machine.specs.Exec.{fetch_span, fetch_fault, unfetched, jump_fault, is_running}
use Rattle.guest_machine.specs.Exec.{is_heap_action, plan, outcome, action_terms, action_asks}
use Rattle.guest_machine.specs.Exec.{intake_of, left_at, given_at, taken_from, written_to, seen_also, counted}
use Rattle.guest_machine.specs.Effects.{Effect, quiet, stops}
use Rattle.guest_machine.specs.Laws.{StaysHalted}
use Rattle.run_values.specs.declared.status.Stop.TheVariants.{Misaligned}
use Rattle.guest_machine.specs.declared.setup.Setup.{Setup}

pub halts : (core : Core) (bytes : ℕ → ℕ) (hooks : List (ℕ × Hook)) → is_running core.status ≡ false
    → action_at core bytes hooks ≡ Action.Halts
unfolding called_here fetched fetches
halts core bytes hooks h =
    ap (λ b. action_by (cond (b && is_aligned core.isa core.pc) (hook_at hooks core.pc) None) (fetched core bytes)) h
    ∙ ap (λ b. fetch_by (b && (is_aligned core.isa core.pc && is_none (fetch_fault core)))
    (is_half core.isa (half_at core bytes)) (is_none (word_fault core)) (half_at core bytes) (word_at core bytes)) h

touches-nothing : (s : State) (setup : Setup) (a : ℕ) → is_running s.core.status ≡ false → touches s setup a ≡ false
unfolding touches touched_at uses_at
touches-nothing s setup a h =
    let n = length s.output in
    ap (λ action. has_touched (record {
      fetch = fetch_span s.core action;
      reads = (plan s.core (action_terms s.core action s.position n setup) action).reads;
      writes = (plan s.core (action_terms s.core action s.position n setup) action).writes;
    }) a) (halts s.core s.bytes setup.hooks h)

-- a state after an effect that uses nothing
after : State → Effect → State
after s e =
    record {
      bytes = s.bytes;
      core = stepped s.core e.core;
      position = s.position + 0;
      end_seen = s.end_seen;
      output = s.output ++ e.output;
      heap_calls = s.heap_calls;
      events = s.events ++ e.raised;
    }

-- no step counts where the machine doesn't run
pub uncounted : (core : Core) → is_running core.status ≡ false → stepped core core ≡ core
uncounted core h =
    ap (λ b. record core { steps = cond (b && is_aligned core.isa core.pc) (steps_on core) core.steps }) h

after-quiet : (s : State) → is_running s.core.status ≡ false → after s (quiet s.core) ≡ s
unfolding after
after-quiet s h = λ i. record {
  bytes = s.bytes;
  core = uncounted s.core h i;
  position = add-zero s.position i;
  end_seen = s.end_seen;
  output = append-nil s.output i;
  heap_calls = s.heap_calls;
  events = append-nil s.events i;
}

halted-step : (s : State) (setup : Setup) → is_running s.core.status ≡ false → exec s setup ≡ s
unfolding exec intake_at uses_at effect_at outcome_at unfetched after
halted-step s setup h =
    let n = length s.output in
    let by : Action → State = λ action.
    let terms = action_terms s.core action s.position n setup in
    let uses = plan s.core terms action in
    let effect = outcome s.core terms action (given_at s.position terms.intake.count setup)
    (taken_from s.bytes uses.reads) in
    let intake = intake_of (action_asks s.core action) (left_at s.position setup) in
    record {
      bytes = written_to s.bytes uses.writes effect.made;
      core = stepped s.core effect.core;
      position = s.position + intake.count;
      end_seen = seen_also s.end_seen intake.ends;
      output = s.output ++ effect.output;
      heap_calls = counted s.heap_calls (is_heap_action s.core action);
      events = s.events ++ effect.raised;
    } in
    ap by (halts s.core s.bytes setup.hooks h)
    ∙ ap (λ b. after s (cond b (cond (is_aligned s.core.isa s.core.pc) (jump_fault s.core (fetch_fault s.core))
    (stops s.core Misaligned)) (quiet s.core))) h
    ∙ after-quiet s h

pub stays-halted : StaysHalted
stays-halted setup s h = (halted-step s setup h, λ a. touches-nothing s setup a h)
