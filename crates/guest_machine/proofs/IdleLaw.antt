-- A state that rests in a jump to itself stays as it is, but for the number of steps.
use Rattle.std.proofs.Common.{◌≡◌, inl, inr, ℕ, ◌+◌, ◌%◌, ◌^◌, ◌<◌, ◌&&◌, ◌==◌, nat_lt, Bool, true}
use Rattle.std.proofs.Common.{false, cond, [], ◌∷◌}
use Rattle.std.proofs.Common.{◌++◌, append-nil, Option, Some, None, refl, ap, sym, ◌∙◌, arith}
use Rattle.std.proofs.Common.{add-zero, suc, zero}
use Rattle.std.proofs.lemmas.Bool.Decides.{nat_tests}
use Rattle.guest_elf.specs.Profiles.{has_controls, is_aligned}
use Rattle.guest_elf.specs.declared.hook.Hook.{Hook}
use Rattle.instructions.specs.Codes.{len_of, row_of_code}
use Rattle.instructions.specs.Instructions.{instruction_of, row_of, row_of_half}
use Rattle.instructions.specs.declared.code.Code.{Code}
use Rattle.instructions.specs.declared.code.Code.TheVariants.{Word, Half}
use Rattle.rv_compressed.specs.Table as halves
use Rattle.rv_compressed.specs.Table.{expansion}
use Rattle.rv_decode.specs.Table as words
use Rattle.rv_decode.specs.Table.{insn}
use Rattle.instructions.specs.CallStack.{hint_by, hinted, jal_hint}
use Rattle.instructions.specs.declared.instruction.Instruction.TheVariants.{Jump}
use Rattle.guest_machine.specs.State.{Core, State}
use Rattle.guest_machine.specs.Effects.{Effect, linked_jump, next_of, stopped}
use Rattle.guest_machine.specs.Errors.{fetch_undef, fetch_errors, event_of, event_unless, here}
use Rattle.error_events.specs.declared.kind.Kind.TheVariants.{Value}
use Rattle.error_events.specs.declared.event.Note.TheVariants.{Absent}
use Rattle.guest_machine.specs.Registers.{register, set_register}
use Rattle.guest_machine.specs.StackPointer.{framed, stack_moved, stack_ruled}
use Rattle.shadow_memory.specs.declared.cells.RangeKind.TheVariants.{NoAccess, Undefined}
use Rattle.run_values.specs.declared.status.Stop.TheVariants.{Misaligned}
use Rattle.guest_machine.specs.Exec.{Action, Takes, Cut, CallsByName, Halts, action_at, action_by, exec}
use Rattle.guest_machine.specs.Exec.{called_here, fetched, fetches, intake_at}
use Rattle.guest_machine.specs.Exec.{row_asks, row_effect, row_uses, uses_at, effect_at}
use Rattle.guest_machine.specs.Exec.{calls_heap, is_ready, is_running, outcome_at, stepped}
use Rattle.guest_machine.specs.Run.{pre}
use Rattle.guest_machine.specs.Streams.{calls_out, is_defined, is_idle, is_self_jump, jumps_to_itself, row_at, row_in}
use Rattle.guest_machine.specs.Streams.{rested, self_jump, short_self_jump, Rests, StaysAtRest}
use Rattle.guest_machine.specs.declared.setup.Setup.{Setup}
use Rattle.guest_machine.proofs.Actions.{by, by-row}
use Rattle.guest_machine.proofs.Fetching.{at_start, may_fetch}
use Rattle.guest_machine.proofs.Halted.{halts, stays-halted, uncounted}
use Rattle.guest_machine.proofs.Running.{none-yet, one-more}

both : (p q : Bool) → p && q ≡ true → (p ≡ true) × (q ≡ true)
both true q h = (refl, h)
both false q h = cc

number : (m n : ℕ) → (m == n) ≡ true → m ≡ n
number m n h = grind (arith, nat_tests)

-- they are jumps to themselves without a link
self-row : row_of_code (Word self_jump) ≡ Some (Jump 0 0)
unfolding row_of insn words.rows instruction_of
self-row = refl

short-self-row : row_of_code (Half short_self_jump) ≡ Some (Jump 0 0)
unfolding row_of_half expansion halves.rows instruction_of
short-self-row = refl

idle-code : (code : Code) → is_self_jump code ≡ true → row_of_code code ≡ Some (Jump 0 0)
idle-code (Word word) h = ap (λ n. row_of_code (Word n)) (number word self_jump h) ∙ self-row
idle-code (Half half) h = ap (λ n. row_of_code (Half n)) (number half short_self_jump h) ∙ short-self-row

idle-action : (action : Action) → jumps_to_itself action ≡ true
    → (code : Code) × ((action ≡ Takes code) × (row_of_code code ≡ Some (Jump 0 0)))
unfolding jumps_to_itself
idle-action (Takes code) h = (code, (refl, idle-code code h))
idle-action Cut h = cc
idle-action (CallsByName function) h = cc
idle-action Halts h = cc

-- a code is only taken where it is fetched
taken-by : (function : Option Hook) (action : Action) (code : Code) → action_by function action ≡ Takes code
    → action ≡ Takes code
taken-by (Some function) action code h = cc
taken-by None action code h = h

-- ---- the stack pointer stays

stands : (b : Bool) (core : Core) (v : ℕ) → cond b (stack_moved core v v) core ≡ core
unfolding stack_moved
stands true core v =
    let none : nat_lt v v ≡ false = grind (arith, nat_tests) in
    ap (λ b. cond b (framed core v v Undefined) (cond b (framed core v v NoAccess) core)) none
stands false core v = refl

stack-stands : (core : Core) → stack_ruled (register core 2) core ≡ core
unfolding stack_ruled
stack-stands core = stands _ core (register core 2).value

-- ---- the jump

jumps-here : (core : Core) (next : ℕ) → core.pc < 2 ^ 32 → is_aligned core.isa core.pc ≡ true
    → linked_jump core next (jal_hint 0) 0 ((core.pc + 0) % 2 ^ 32) ≡ core
unfolding linked_jump set_register hinted hint_by
jumps-here core next small aligned =
    let here : (core.pc + 0) % 2 ^ 32 ≡ core.pc = omega (arith, small) in
    ap (λ to. linked_jump core next (jal_hint 0) 0 to) here
    ∙ ap (λ b. cond b core (stopped core Misaligned)) aligned

-- ---- the step

after : State → Effect → State
after s e =
    record {
      bytes = s.bytes;
      core = stepped s.core e.core;
      position = s.position + 0;
      end_seen = s.end_seen;
      output = s.output ++ e.output;
      heap_calls = s.heap_calls;
      events = s.events ++ e.raised;
    }

jumped-state : (s : State) (setup : Setup) (len : ℕ) → s.core.pc < 2 ^ 32 → is_aligned s.core.isa s.core.pc ≡ true
    → (fetch_undef s.core len == 0) ≡ true
    → by-row s setup len (Some (Jump 0 0)) (calls_heap s.core (Some (Jump 0 0))) (row_asks s.core (Some (Jump 0 0)))
    ≡ record s { core = stepped s.core s.core }
unfolding by-row row_asks row_uses row_effect calls_heap event_unless after
jumped-state s setup len small aligned defined =
    let there = jumps-here s.core (next_of s.core len) small aligned in
    let core : stack_ruled (register s.core 2)
    (linked_jump s.core (next_of s.core len) (jal_hint 0) 0 ((s.core.pc + 0) % 2 ^ 32)) ≡ s.core =
    ap (λ core. stack_ruled (register s.core 2) core) there ∙ stack-stands s.core in
    let raised : fetch_errors s.core len ++ [] ≡ [] =
    ap (λ b. cond b [] (event_of (here s.core) Value Absent ∷ []) ++ []) defined in
    λ i. record {
      bytes = s.bytes;
      core = stepped s.core (core i);
      position = add-zero s.position i;
      end_seen = s.end_seen;
      output = append-nil s.output i;
      heap_calls = s.heap_calls;
      events = (ap (λ es. s.events ++ es) raised ∙ append-nil s.events) i;
    }

idle-step : (setup : Setup) (s : State) → s.core.pc < 2 ^ 32 → is_idle s setup ≡ true
    → exec s setup ≡ record s { core = stepped s.core s.core }
unfolding exec intake_at uses_at effect_at outcome_at is_idle by by-row
idle-step setup s small idle =
    let action = action_at s.core s.bytes setup.hooks in
    let parts = both (jumps_to_itself action) (is_defined s.core action) idle in
    let found = idle-action action parts.0 in
    let defined = ap (is_defined s.core) (sym found.1.0) ∙ parts.1 in
    let fetch = taken-by (called_here s.core setup.hooks) (fetched s.core s.bytes) found.0 found.1.0 in
    let aligned = at_start s.core (may_fetch s.core s.bytes found.0 fetch) in
    ap (by s setup) found.1.0
    ∙ ap (λ row. by-row s setup (len_of found.0) row (calls_heap s.core row) (row_asks s.core row)) found.1.1
    ∙ jumped-state s setup (len_of found.0) small aligned defined

quiet-jump : (action : Action) → jumps_to_itself action ≡ true → calls_out (row_in action) ≡ false
unfolding calls_out row_in
quiet-jump action h =
    let found = idle-action action h in
    ap (λ d. calls_out (row_in d)) found.1.0 ∙ ap calls_out found.1.1

quiet-halt : (s : State) (setup : Setup) → is_running s.core.status ≡ false → calls_out (row_at s setup) ≡ false
unfolding row_at row_in calls_out
quiet-halt s setup h = ap (λ action. calls_out (row_in action)) (halts s.core s.bytes setup.hooks h)

-- ---- a state at rest

rest-step : (setup : Setup) (s : State) → Rests s setup → exec s setup ≡ record s { core = stepped s.core s.core }
rest-step setup s (inl halted) =
    (stays-halted setup s halted).0 ∙ ap (λ core. record s { core = core }) (sym (uncounted s.core halted))
rest-step setup s (inr idle) = idle-step setup s idle.within idle.idle

quiet-at-rest : (setup : Setup) (s : State) → Rests s setup → calls_out (row_at s setup) ≡ false
unfolding is_idle row_at
quiet-at-rest setup s (inl halted) = quiet-halt s setup halted
quiet-at-rest setup s (inr idle) =
    let action = action_at s.core s.bytes setup.hooks in
    quiet-jump action (both (jumps_to_itself action) (is_defined s.core action) idle.idle).0

-- it rests with another number of steps too
idle-with : (setup : Setup) (s : State) (steps : ℕ)
    → is_idle (record s { core = record s.core { steps = steps } }) setup ≡ is_idle s setup
unfolding is_idle called_here fetched fetches
idle-with setup s steps = refl

few-steps : (b : Bool) (x n : ℕ) → x < 2 ^ 64 → cond b ((x + n) % 2 ^ 64) x < 2 ^ 64
few-steps true x n h = omega arith
few-steps false x n h = h

rests-on : (setup : Setup) (s : State) (n : ℕ) → Rests s setup → Rests (rested s n) setup
unfolding rested
rests-on setup s n (inl halted) = inl halted
rests-on setup s n (inr idle) = inr (record {
  within = idle.within;
  counted = few-steps (is_ready s.core && has_controls s.core.isa) s.core.steps n idle.counted;
  idle = idle-with setup s _ ∙ idle.idle;
})

-- after no steps, and after another one
steps-none : (b : Bool) (x : ℕ) → x < 2 ^ 64 → x ≡ cond b ((x + 0) % 2 ^ 64) x
steps-none true x h = omega arith
steps-none false x h = refl

rested-none : (setup : Setup) (s : State) → Rests s setup → s ≡ rested s 0
unfolding rested
rested-none setup s (inl halted) =
    sym (ap (λ b. record s {
      core = record s.core {
        steps = cond ((b && is_aligned s.core.isa s.core.pc) && has_controls s.core.isa)
            ((s.core.steps + 0) % 2 ^ 64) s.core.steps;
      };
    }) halted)
rested-none setup s (inr idle) =
    ap (λ n. record s { core = record s.core { steps = n } })
    (steps-none (is_ready s.core && has_controls s.core.isa) s.core.steps idle.counted)

steps-next : (ready has : Bool) (x n : ℕ)
    → cond ready (cond has ((cond (ready && has) ((x + n) % 2 ^ 64) x + 1) % 2 ^ 64)
    (cond (ready && has) ((x + n) % 2 ^ 64) x)) (cond (ready && has) ((x + n) % 2 ^ 64) x)
    ≡ cond (ready && has) ((x + suc n) % 2 ^ 64) x
steps-next true true x n = omega arith
steps-next true false x n = refl
steps-next false has x n = refl

rested-next : (s : State) (n : ℕ)
    → record (rested s n) { core = stepped (rested s n).core (rested s n).core } ≡ rested s (suc n)
unfolding rested
rested-next s n =
    ap (λ k. record s { core = record s.core { steps = k } })
    (steps-next (is_ready s.core) (has_controls s.core.isa) s.core.steps n)

rests-for : (setup : Setup) (s : State) → Rests s setup → (n : ℕ) → pre s setup [] n ≡ rested s n
rests-for setup s h zero = none-yet s setup ∙ rested-none setup s h
rests-for setup s h (suc n) =
    one-more s setup n ∙ ap (λ t. exec t setup) (rests-for setup s h n)
    ∙ rest-step setup (rested s n) (rests-on setup s n h) ∙ rested-next s n

pub stays-at-rest : StaysAtRest
stays-at-rest setup s h n =
    let there = rests-for setup s h n in (
      there,
      ap (λ t. calls_out (row_at t setup)) there ∙ quiet-at-rest setup (rested s n) (rests-on setup s n h),
    )
