-- A write that raises no use had a buffer that may be accessed, if it raises no error, or if what it read may be
-- accessed after it.
use Rattle.std.proofs.Common.{◌≡◌, ℕ, not, Bool, true, false, cond, refl, sym, ap, ◌∙◌, subst, arith}
use Rattle.std.proofs.Common.{List, [], ◌∷◌, ◌++◌, length, Some, None, nat_lt}
use Rattle.std.proofs.lemmas.Bool.{and_parts, ltb-false, or_parts}
use Rattle.std.proofs.lemmas.List.{length-append}
use Rattle.error_events.specs.declared.event.Event.{Event}
use Rattle.error_events.specs.declared.parameter.Parameter.TheVariants.{WriteBuffer}
use Rattle.instructions.specs.Codes.{len_of, row_of_code}
use Rattle.instructions.specs.declared.code.Code.{Code}
use Rattle.run_values.specs.declared.span.Span.{Span}
use Rattle.shadow_memory.specs.Ranges.{above}
use Rattle.shadow_memory.specs.Shadows.{Shadow, address_at, first_bad, first_inaccessible, is_bad}
use Rattle.guest_machine.specs.Calls.{answered, appends, argument, has_room, is_output, moved_len, parameters_of}
use Rattle.guest_machine.specs.Calls.{write_call}
use Rattle.guest_machine.specs.Effects.{moved_to, next_of}
use Rattle.guest_machine.specs.Errors.{buffer_errors, fetch_errors}
use Rattle.guest_machine.specs.Exec.{Action, Takes, action_at, action_terms, exec, given_at, outcome, plan, taken_from}
use Rattle.guest_machine.specs.Exec.{call_asks, call_effect, call_uses, touched_of}
use Rattle.guest_machine.specs.Registers.{register, set_register}
use Rattle.guest_machine.specs.Spans.{span_at}
use Rattle.guest_machine.specs.StackPointer.{stack_ruled}
use Rattle.guest_machine.specs.State.{Core, State}
use Rattle.guest_machine.specs.declared.setup.Setup.{Setup}
use Rattle.guest_machine.specs.declared.setup.Touched.{Touched}
use Rattle.clean_reports.specs.Uses.{NoUse}
use Rattle.clean_reports.proofs.Memory.{none-at}
use Rattle.any_runs.specs.Echoes.{IsWrite, WritesOpen, kept}
use Rattle.any_runs.proofs.Calls.{none-bad, write-cases, write-parameters}
use Rattle.any_runs.proofs.Echo.{left-kept, none-of, register-after, right-kept, ruled-still}
use Rattle.any_runs.proofs.Echoing.{after-call, after-row, call-is, taken-raised, write-raised, write-touches}
use Rattle.any_runs.proofs.Kept.{tests-kept}
use Rattle.any_runs.proofs.Memory.{first-at, no-bad}
use Rattle.any_runs.proofs.Steps.{after, exec-is}
use Rattle.any_runs.proofs.Tests.{HasKnown, call-known, call-raises, call-tested}
use Rattle.any_runs.proofs.Tests.{test-errors}

-- a range with no bad byte may be accessed
opened-by : (f : ℕ → Shadow) (start n : ℕ) (need : Bool) → first_bad f start n need ≡ None
    → first_inaccessible f start n ≡ None
unfolding first_bad first_inaccessible
opened-by f start n need none =
    ap (address_at start) (first-at (λ i. not (f (above start i)).accessible) n (λ k h.
    (or_parts (not (f (above start k)).accessible) _
    (none-at (λ i. is_bad need (f (above start i))) n (no-bad f start _ none) k h)).0))

-- no more errors are none
nothing-more : (xs ys : List Event) → length (xs ++ ys) ≡ length xs → ys ≡ []
nothing-more xs [] e = refl
nothing-more xs (y ∷ ys) e = let sum = length-append xs (y ∷ ys) in absurd (omega (arith, sum, e))

append-nil : (xs : List Event) → (xs ++ []) ≡ xs
append-nil [] = refl
append-nil (x ∷ xs) = ap (λ ys. x ∷ ys) (append-nil xs)

both-none : (xs ys : List Event) → (xs ++ ys) ≡ [] → (xs ≡ []) × (ys ≡ [])
both-none [] ys e = (refl, e)
both-none (x ∷ xs) ys e = cc

none-at-all : (es : List Event) → es ≡ [] → NoUse es
none-at-all es none = subst NoUse (sym none) tt

-- a write whose parameters are defined leaves all but a register and pc
write-core : (c : Core) (next written : ℕ) (taken : ℕ → ℕ) → HasKnown c write-parameters → appends c written ≡ true
    → (write_call c next written taken).core ≡ moved_to (answered c (moved_len c)) next
unfolding write_call appends parameters_of
write-core c next written taken known fits =
    let parts = and_parts (is_output (argument c 10)) (has_room c written) fits in
    sym (λ i. (write-cases (sym (call-tested c write-parameters known) i) next
    (sym (call-raises c write-parameters known) i) (sym parts.0 i) (sym parts.1 i) (argument c 11) (moved_len c)
    taken).core)

module _ (s : State) (setup : Setup) where
  abbrev c : Core
  c = s.core

  abbrev action : Action
  action = action_at c s.bytes setup.hooks

  abbrev given : List ℕ
  given = given_at s.position (action_terms c action s.position (length s.output) setup).intake.count setup

  abbrev taken : ℕ → ℕ
  taken = taken_from s.bytes (plan c (action_terms c action s.position (length s.output) setup) action).reads

  -- the errors of the step
  abbrev raised : List Event
  raised = (outcome c (action_terms c action s.position (length s.output) setup) action given taken).raised

  events-are : (exec s setup).events ≡ s.events ++ raised
  events-are = ap (λ (t : State). t.events) (exec-is s setup)

  shape : (code : Code) → action ≡ Takes code → IsWrite c (row_of_code code)
      → raised ≡ fetch_errors c (len_of code) ++ (write_call c (next_of c (len_of code)) (length s.output) taken).raised
  shape code is write =
      let terms = action_terms c action s.position (length s.output) setup in
      ap (λ (x : Action). (outcome c terms x given taken).raised) is ∙ taken-raised c code terms given taken write

  -- a step after which there are no more errors raises none
  quiet : nat_lt (length s.events) (length (exec s setup).events) ≡ false → raised ≡ []
  quiet few =
      let same = ap (λ (es : List Event). length es) events-are in
      let sum = length-append s.events raised in
      let most = ltb-false (length s.events) (length (exec s setup).events) few in
      nothing-more s.events raised (omega (arith, same, sum, most))

  pub quiet-events : nat_lt (length s.events) (length (exec s setup).events) ≡ false → (exec s setup).events ≡ s.events
  quiet-events few = events-are ∙ ap (λ es. s.events ++ es) (quiet few) ∙ append-nil s.events

  pub opens-quietly : nat_lt (length s.events) (length (exec s setup).events) ≡ false → WritesOpen s setup
  opens-quietly few code is write fits =
      let next = next_of c (len_of code) in
      let call = (both-none _ _ (sym (shape code is write) ∙ quiet few)).1 in
      let parts = both-none _ _ (sym (write-raised c next (length s.output) taken fits) ∙ call) in
      let known = call-known c write-parameters (none-at-all _ parts.0) in
      let buffer = ap (λ (k : Core). buffer_errors k WriteBuffer true (argument c 11) (moved_len c))
      (sym (call-tested c write-parameters known)) ∙ parts.1 in
      opened-by c.shadow (argument c 11) (moved_len c) true
      (none-bad c (argument c 11) (moved_len c) (none-at-all _ buffer))

  -- the memory that may be accessed after a write is that before it
  write-shadow : (code : Code) → action ≡ Takes code → IsWrite c (row_of_code code) → HasKnown c write-parameters
      → appends c (length s.output) ≡ true → (exec s setup).core.shadow ≡ c.shadow
  unfolding call_effect call_uses call_asks set_register
  write-shadow code is write known fits =
      let len = len_of code in
      let whole : exec s setup ≡ after-call s setup len 64 =
      exec-is s setup ∙ ap (after s setup) is ∙ ap (after-row s setup len) write.0 ∙ call-is s setup len
      ∙ ap (after-call s setup len) write.1 in
      let core = write-core c (next_of c len) (length s.output) _ known fits in
      ap (λ (t : State). t.core.shadow) whole
      ∙ ap (λ (k : Core). (stack_ruled (register c 2) k).shadow) core
      ∙ ap (λ (k : Core). k.shadow) (ruled-still c (moved_to (answered c (moved_len c)) (next_of c len))
      (register-after c (moved_len c) (next_of c len)))

  -- where what it reads may be accessed after it
  pub opens-after : NoUse (kept (exec s setup).events)
      → ((span : Span) → (touched_of s setup).reads ≡ Some span
      → first_bad (exec s setup).core.shadow span.start span.len false ≡ None)
      → WritesOpen s setup
  unfolding appends
  opens-after none reads code is write fits =
      let next = next_of c (len_of code) in
      let now : NoUse (kept raised) =
      right-kept s.events raised (subst (λ es. NoUse (kept es)) events-are none) in
      let parts = subst (λ es. NoUse (kept es)) (shape code is write) now in
      let call = right-kept (fetch_errors c (len_of code)) _ parts in
      let tests = left-kept (test-errors c write-parameters) _
      (subst (λ es. NoUse (kept es)) (write-raised c next (length s.output) taken fits) call) in
      let known = call-known c write-parameters (none-of _ (tests-kept c write-parameters) tests) in
      let span = span_at (argument c 11) (moved_len c) in
      let at : (touched_of s setup).reads ≡ Some span =
      ap (λ (t : Touched). t.reads) (write-touches s setup code is write) ∙ (λ i. cond (fits i) (Some span) None) in
      opened-by c.shadow (argument c 11) (moved_len c) false
      (ap (λ f. first_bad f (argument c 11) (moved_len c) false) (sym (write-shadow code is write known fits))
      ∙ reads span at)
