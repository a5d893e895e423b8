-- Effects with fewer undefined bits, of the calls of the environment.
use Rattle.std.proofs.Common.{◌≡◌, ℕ, ◌+◌, ◌%◌, Bool, true}
use Rattle.std.proofs.Common.{false, cond, refl, sym, ap, ◌∙◌, subst, List, [], ◌∷◌, ◌++◌}
use Rattle.std.proofs.Common.{Option, Some, None, ◌==◌, nat_le, slice_index}
use Rattle.std.proofs.lemmas.Bool.{false≢true}
use Rattle.error_events.specs.declared.event.Event.{Event}
use Rattle.error_events.specs.declared.kind.Kind.TheVariants.{Param}
use Rattle.error_events.specs.declared.kind.ParameterFault.TheVariants.{Uninit, Unaddressable}
use Rattle.error_events.specs.declared.parameter.Parameter.{Parameter}
use Rattle.error_events.specs.declared.parameter.Parameter.TheVariants.{ReadFd, ReadBuffer, ReadCount}
use Rattle.error_events.specs.declared.parameter.Parameter.TheVariants.{WriteFd, WriteBuffer, WriteCount}
use Rattle.shadow_memory.specs.Shadows.{first_bad, stored_undef}
use Rattle.shadow_memory.specs.declared.cells.Bad.{Bad}
use Rattle.guest_machine.specs.State.{Core}
use Rattle.guest_machine.specs.Registers.{known, set_register}
use Rattle.guest_machine.specs.Errors.{here, buffer_errors, buffer_event}
use Rattle.guest_machine.specs.Effects.{Effect, raising, moved_to, exited, stored_core, no_bytes}
use Rattle.guest_machine.specs.Calls.{argument, answered, parameters_of}
use Rattle.guest_machine.specs.Calls.{failure, ebadf, enospc, enosys, read_call}
use Rattle.guest_machine.specs.Calls.{moved_len, has_room, is_output, bytes_taken, write_call}
use Rattle.clean_reports.specs.Uses.{NoUse, is_use}
use Rattle.any_runs.proofs.Memory.{stored-sharper, still-good, unaddressable-same, within-self}
use Rattle.any_runs.proofs.Held.{Held, HeldSharper, held-of, swap, set-in, shaded, set-in-sharper, known-sharper}
use Rattle.any_runs.proofs.Held.{same-argument, moved-too, call-others}
use Rattle.any_runs.proofs.Tests.{left-none, after-tests, test-errors, call-known, call-tested}
use Rattle.any_runs.proofs.Tests.{call-raises}
use Rattle.any_runs.proofs.Effects.{EffectsSharper, carried}

abbrev pub read-parameters : List Parameter
read-parameters = ReadFd ∷ ReadBuffer ∷ ReadCount ∷ []

abbrev pub write-parameters : List Parameter
write-parameters = WriteFd ∷ WriteBuffer ∷ WriteCount ∷ []

-- the effect of each call, by the core and errors after the tests and the values of the parameters --

abbrev pub answer-by : Core → ℕ → List Event → ℕ → Effect
answer-by now next es n = raising (moved_to (answered now n) next) es

abbrev read-by : Core → ℕ → List Event → ℕ → ℕ → ℕ → ℕ → List ℕ → Effect
read-by now next es fd buffer len n given =
    cond (fd == 0)
    (record {
      core = moved_to (answered (stored_core now buffer n 0) n) next;
      raised = es ++ buffer_errors now ReadBuffer false buffer len;
      made = slice_index given;
      output = [];
    })
    (answer-by now next es (failure ebadf))

abbrev pub write-cases : Core → ℕ → List Event → Bool → Bool → ℕ → ℕ → (ℕ → ℕ) → Effect
write-cases now next es p q buffer len taken =
    cond p
    (cond q
    (record {
      core = moved_to (answered now len) next;
      raised = es ++ buffer_errors now WriteBuffer true buffer len;
      made = no_bytes;
      output = bytes_taken taken len;
    })
    (answer-by now next es (failure enospc)))
    (answer-by now next es (failure ebadf))

abbrev write-by : Core → ℕ → List Event → ℕ → ℕ → ℕ → Bool → (ℕ → ℕ) → Effect
write-by now next es fd buffer len room taken = write-cases now next es (is_output fd) room buffer len taken

pub read-first : (c : Core) (next n : ℕ) (given : List ℕ) → NoUse (read_call c next n given).raised
    → NoUse (test-errors c read-parameters)
unfolding read_call parameters_of
read-first c next n given none = go (argument c 10 == 0) none
  where
    go : (b : Bool) → NoUse (cond b
        (record {
          core = moved_to (answered (stored_core (after-tests c read-parameters) (argument c 11) n 0) n) next;
          raised = test-errors c read-parameters ++ buffer_errors (after-tests c read-parameters) ReadBuffer false
              (argument c 11) (moved_len c);
          made = slice_index given;
          output = [];
        })
        (answer-by (after-tests c read-parameters) next (test-errors c read-parameters) (failure ebadf))).raised
        → NoUse (test-errors c read-parameters)
    go true none = left-none _ _ none
    go false none = none

pub write-first : (c : Core) (next written : ℕ) (taken : ℕ → ℕ) → NoUse (write_call c next written taken).raised
    → NoUse (test-errors c write-parameters)
unfolding write_call parameters_of
write-first c next written taken none = go (is_output (argument c 10)) (has_room c written) none
  where
    go : (b d : Bool) → NoUse (cond b (cond d
        (record {
          core = moved_to (answered (after-tests c write-parameters) (moved_len c)) next;
          raised = test-errors c write-parameters ++ buffer_errors (after-tests c write-parameters) WriteBuffer true
              (argument c 11) (moved_len c);
          made = no_bytes;
          output = bytes_taken taken (moved_len c);
        })
        (answer-by (after-tests c write-parameters) next (test-errors c write-parameters) (failure enospc)))
        (answer-by (after-tests c write-parameters) next (test-errors c write-parameters) (failure ebadf))).raised
        → NoUse (test-errors c write-parameters)
    go true true none = left-none _ _ none
    go true false none = none
    go false d none = none

pub none-bad : (c : Core) (start n : ℕ) → NoUse (buffer_errors c WriteBuffer true start n)
    → first_bad c.shadow start n true ≡ None
unfolding buffer_event
none-bad c start n none = go (first_bad c.shadow start n true) none
  where
    always : (b : Bool) → is_use (Param WriteBuffer (cond b Uninit Unaddressable)) ≡ true
    always true = refl
    always false = refl

    go : (o : Option Bad) → NoUse (buffer_event c.stack c.blocks (here c) WriteBuffer o) → o ≡ None
    go None none = refl
    go (Some bad) none = absurd (false≢true (sym none.0 ∙ always bad.accessible))

module _ (c : Core) (qs : Held) (a : HeldSharper (held-of c) qs) (next : ℕ) where
  abbrev d : Core
  d = swap c qs

  answers-by : (n : ℕ) → EffectsSharper (answer-by c next [] n) (answer-by d next [] n)
  unfolding set_register
  answers-by n = record {
    held = set-in qs 10 (known n);
    core = refl;
    agree = set-in-sharper (held-of c) qs a 10 _ _ (known-sharper n);
    raised = refl;
    made = refl;
    output = refl;
  }

  event-same : (parameter : Parameter) (o : Option Bad)
      → buffer_event c.stack c.blocks (here c) parameter o ≡ buffer_event d.stack d.blocks (here d) parameter o
  unfolding buffer_event
  event-same parameter None = refl
  event-same parameter (Some bad) = refl

  -- read --

  reads-by : (fd buffer len n : ℕ) (given : List ℕ)
      → EffectsSharper (read-by c next [] fd buffer len n given) (read-by d next [] fd buffer len n given)
  unfolding set_register
  reads-by fd buffer len n given = go (fd == 0)
    where
      after : Held
      after = shaded qs (stored_undef qs.shadow buffer n 0)

      stored : HeldSharper (held-of (stored_core c buffer n 0)) after
      stored = record {
        registers = a.registers;
        controls = a.controls;
        shadow = stored-sharper c.shadow qs.shadow a.shadow buffer n 0 0 (λ i h. within-self 8 _);
      }

      go : (b : Bool) → EffectsSharper
          (cond b
          (record {
            core = moved_to (answered (stored_core c buffer n 0) n) next;
            raised = [] ++ buffer_errors c ReadBuffer false buffer len;
            made = slice_index given;
            output = [];
          })
          (answer-by c next [] (failure ebadf)))
          (cond b
          (record {
            core = moved_to (answered (stored_core d buffer n 0) n) next;
            raised = [] ++ buffer_errors d ReadBuffer false buffer len;
            made = slice_index given;
            output = [];
          })
          (answer-by d next [] (failure ebadf)))
      go true = record {
        held = set-in after 10 (known n);
        core = refl;
        agree = set-in-sharper (held-of (stored_core c buffer n 0)) after stored 10 _ _ (known-sharper n);
        raised = (λ i. buffer_event c.stack c.blocks (here c) ReadBuffer
            (unaddressable-same c.shadow qs.shadow a.shadow buffer len i)) ∙ event-same ReadBuffer _;
        made = refl;
        output = refl;
      }
      go false = answers-by (failure ebadf)

  pub reads : (n : ℕ) (given : List ℕ) → NoUse (read_call c next n given).raised
      → EffectsSharper (read_call c next n given) (read_call d next n given)
  unfolding read_call parameters_of
  reads n given none =
      let known = call-known c read-parameters (read-first c next n given none) in
      let known' = call-others c qs a read-parameters known in
      let now = call-tested c read-parameters known in
      let now' = call-tested d read-parameters known' in
      let es = call-raises c read-parameters known in
      let es' = call-raises d read-parameters known' in
      let x = same-argument c qs a 10 in
      let y = same-argument c qs a 11 in
      let moved = moved-too c qs a in
      carried _ _ _ _
      (λ i. read-by (sym now i) next (sym es i) (argument c 10) (argument c 11) (moved_len c) n given)
      (λ i. read-by (sym now' i) next (sym es' i) (x i) (y i) (moved i) n given)
      (reads-by (argument c 10) (argument c 11) (moved_len c) n given)

  -- write --

  writes-by : (fd buffer len : ℕ) (room : Bool) (taken : ℕ → ℕ)
      → NoUse (write-by c next [] fd buffer len room taken).raised
      → EffectsSharper (write-by c next [] fd buffer len room taken) (write-by d next [] fd buffer len room taken)
  unfolding set_register
  writes-by fd buffer len room taken none = go (is_output fd) room none
    where
      go : (p q : Bool) → NoUse (write-cases c next [] p q buffer len taken).raised
          → EffectsSharper (write-cases c next [] p q buffer len taken) (write-cases d next [] p q buffer len taken)
      go true true none =
          let good = none-bad c buffer len none in
          let fine = still-good c.shadow qs.shadow a.shadow buffer len good in
          record {
            held = set-in qs 10 (known len);
            core = refl;
            agree = set-in-sharper (held-of c) qs a 10 _ _ (known-sharper len);
            raised = ap (buffer_event c.stack c.blocks (here c) WriteBuffer) good ∙ event-same WriteBuffer None
                ∙ sym (ap (buffer_event d.stack d.blocks (here d) WriteBuffer) fine);
            made = refl;
            output = refl;
          }
      go true false none = answers-by (failure enospc)
      go false q none = answers-by (failure ebadf)

  pub writes : (written : ℕ) (taken : ℕ → ℕ) → NoUse (write_call c next written taken).raised
      → EffectsSharper (write_call c next written taken) (write_call d next written taken)
  unfolding write_call parameters_of
  writes written taken none =
      let known = call-known c write-parameters (write-first c next written taken none) in
      let known' = call-others c qs a write-parameters known in
      let now = call-tested c write-parameters known in
      let now' = call-tested d write-parameters known' in
      let es = call-raises c write-parameters known in
      let es' = call-raises d write-parameters known' in
      let x = same-argument c qs a 10 in
      let y = same-argument c qs a 11 in
      let moved = moved-too c qs a in
      let fits : has_room c written ≡ has_room d written =
      λ i. nat_le (written + moved i) c.limits.most_output in
      let quiet' =
      subst (λ (e : Effect). NoUse e.raised) (λ i. write-by (now i) next (es i) (argument c 10) (argument c 11)
      (moved_len c) (has_room c written) taken) none in
      carried _ _ _ _
      (λ i. write-by (sym now i) next (sym es i) (argument c 10) (argument c 11) (moved_len c)
      (has_room c written) taken)
      (λ i. write-by (sym now' i) next (sym es' i) (x i) (y i) (moved i) (fits i) taken)
      (writes-by (argument c 10) (argument c 11) (moved_len c) (has_room c written) taken quiet')

  -- exit, and a number that is no call --

  pub exits : (parameter : Parameter) → NoUse (test-errors c (parameter ∷ []))
      → EffectsSharper
      (raising (exited (after-tests c (parameter ∷ [])) (argument c 10 % 256)) (test-errors c (parameter ∷ [])))
      (raising (exited (after-tests d (parameter ∷ [])) (argument d 10 % 256)) (test-errors d (parameter ∷ [])))
  exits parameter none =
      let ps = parameter ∷ [] in
      let known = call-known c ps none in
      let known' = call-others c qs a ps known in
      let x = same-argument c qs a 10 in
      carried _ _ _ _
      (λ i. raising (exited (sym (call-tested c ps known) i) (argument c 10 % 256)) (sym (call-raises c ps known) i))
      (λ i. raising (exited (sym (call-tested d ps known') i) (x i % 256)) (sym (call-raises d ps known') i))
      (record { held = qs; core = refl; agree = a; raised = refl; made = refl; output = refl })

  pub unknowns : NoUse (test-errors c [])
      → EffectsSharper (answer-by (after-tests c []) next (test-errors c []) (failure enosys))
      (answer-by (after-tests d []) next (test-errors d []) (failure enosys))
  unknowns none =
      let known = call-known c [] none in
      let known' = call-others c qs a [] known in
      carried _ _ _ _
      (λ i. answer-by (sym (call-tested c [] known) i) next (sym (call-raises c [] known) i) (failure enosys))
      (λ i. answer-by (sym (call-tested d [] known') i) next (sym (call-raises d [] known') i) (failure enosys))
      (answers-by (failure enosys))
