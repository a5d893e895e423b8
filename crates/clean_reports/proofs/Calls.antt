-- Effects that agree, of the calls of the environment.
use Rattle.std.proofs.Common.{◌≡◌, ℕ, ◌+◌, ◌%◌, ◌^◌, ◌<◌, ◌&&◌, min, Bool, true}
use Rattle.std.proofs.Common.{false, cond, refl, sym, ap, ◌∙◌, subst, subst₂, arith, List, [], ◌∷◌, ◌++◌}
use Rattle.std.proofs.Common.{Option, Some, None, ◌==◌, nat_le, nat_lt, slice_index}
use Rattle.std.proofs.Math.Path.{fun_ext}
use Rattle.std.proofs.lemmas.Bool.{false≢true, ltb-true}
use Rattle.error_events.specs.declared.event.Event.{Event}
use Rattle.error_events.specs.declared.kind.Kind.TheVariants.{Param}
use Rattle.error_events.specs.declared.kind.ParameterFault.TheVariants.{Contains, Uninit, Unaddressable}
use Rattle.error_events.specs.declared.parameter.Parameter.{Parameter}
use Rattle.error_events.specs.declared.parameter.Parameter.TheVariants.{SyscallNumber, ReadFd, ReadBuffer, ReadCount}
use Rattle.error_events.specs.declared.parameter.Parameter.TheVariants.{WriteFd, WriteBuffer, WriteCount}
use Rattle.shadow_memory.specs.Ranges.{window, written, above}
use Rattle.shadow_memory.specs.Shadows.{first_bad}
use Rattle.shadow_memory.specs.declared.cells.Bad.{Bad}
use Rattle.run_values.specs.declared.span.Span.{Span}
use Rattle.guest_machine.specs.State.{Core}
use Rattle.guest_machine.specs.Registers.{known, set_register, tested}
use Rattle.guest_machine.specs.Spans.{span_at}
use Rattle.guest_machine.specs.Errors.{here, parameter_errors, buffer_errors, buffer_event}
use Rattle.guest_machine.specs.Effects.{Effect, raising, moved_to, exited, stored_core, no_bytes}
use Rattle.guest_machine.specs.Calls.{argument, answered, parameters_of, tested_from}
use Rattle.guest_machine.specs.Calls.{errors_from, failure, ebadf, enospc, enosys, read_call}
use Rattle.guest_machine.specs.Calls.{moved_from_start, moved_len, has_room, is_output, bytes_taken, write_call}
use Rattle.guest_machine.specs.Calls.{appends}
use Rattle.guest_machine.proofs.Moving.{moved-small}
use Rattle.guest_machine.specs.Exec.{taken_from, read_uses, write_uses}
use Rattle.clean_reports.specs.Agreement.{AreBytes, MemoriesAgree}
use Rattle.clean_reports.specs.Uses.{NoUse, is_use}
use Rattle.clean_reports.proofs.Values.{known-agrees}
use Rattle.clean_reports.proofs.Memory.{good-from, good-byte, stored-agrees}
use Rattle.clean_reports.proofs.Registers.{Held, HeldAgree, held-of, swap, set-in, set-in-agrees, IsKnown, AreKnown}
use Rattle.clean_reports.proofs.Registers.{same-argument, other-known, register-agrees}
use Rattle.clean_reports.proofs.Registers.{others-known}
use Rattle.clean_reports.proofs.Registers.{left-none, right-none, known-by, no-errors, tested-same, all-known}
use Rattle.clean_reports.proofs.Registers.{all-tested}
use Rattle.clean_reports.proofs.Registers.{none-raised}
use Rattle.clean_reports.proofs.Effects.{EffectsAgree}

-- agreement carried carried-along an equation for each argument
pub carried-along : (f g : ℕ → ℕ) (u u' v v' : Option Span) (e e' h h' : Effect) → u ≡ u' → v ≡ v' → e ≡ e' → h ≡ h'
    → EffectsAgree f g u v e h → EffectsAgree f g u' v' e' h'
carried-along f g u u' v v' e e' h h' p q r s a =
    subst₂ (λ e h. EffectsAgree f g u' v' e h) r s (subst₂ (λ u v. EffectsAgree f g u v e h) p q a)

-- the number of the call and its parameters are defined --

-- the core and the errors after the tests of the number and the parameters
abbrev pub after-tests : Core → List Parameter → Core
after-tests c ps = tested_from (tested c 17) 10 ps

abbrev pub test-errors : Core → List Parameter → List Event
test-errors c ps = parameter_errors c 17 SyscallNumber ++ errors_from (tested c 17) 10 ps

abbrev pub HasKnown : Core → List Parameter → Type 0
HasKnown c ps = IsKnown c 17 × AreKnown c 10 ps

pub call-known : (c : Core) (ps : List Parameter) → NoUse (test-errors c ps) → HasKnown c ps
call-known c ps none =
    let number = known-by c 17 (Param SyscallNumber Contains) refl (left-none _ _ none) in (
      number,
      all-known c 10 ps (subst (λ now. NoUse (errors_from now 10 ps))
          (tested-same c 17 number) (right-none (parameter_errors c 17 SyscallNumber) _ none)),
    )

pub call-tested : (c : Core) (ps : List Parameter) → HasKnown c ps → after-tests c ps ≡ c
call-tested c ps known = ap (λ now. tested_from now 10 ps) (tested-same c 17 known.0) ∙ all-tested c 10 ps known.1

pub call-raises : (c : Core) (ps : List Parameter) → HasKnown c ps → test-errors c ps ≡ []
call-raises c ps known =
    ap (λ es. es ++ errors_from (tested c 17) 10 ps) (no-errors c 17 (Param SyscallNumber Contains) known.0)
    ∙ ap (λ now. errors_from now 10 ps) (tested-same c 17 known.0)
    ∙ none-raised c 10 ps known.1

pub call-others : (c : Core) (qs : Held) → HeldAgree (held-of c) qs → (ps : List Parameter)
    → HasKnown c ps → HasKnown (swap c qs) ps
call-others c qs a ps known = (other-known c qs a 17 known.0, others-known c qs a 10 ps known.1)

abbrev pub read-parameters : List Parameter
read-parameters = ReadFd ∷ ReadBuffer ∷ ReadCount ∷ []

abbrev pub write-parameters : List Parameter
write-parameters = WriteFd ∷ WriteBuffer ∷ WriteCount ∷ []

-- the effect of each call, by the core and errors after the tests and the values of the parameters --

abbrev pub answer-by : Core → ℕ → List Event → ℕ → Effect
answer-by now next es n = raising (moved_to (answered now n) next) es

abbrev read-by : Core → ℕ → List Event → ℕ → ℕ → ℕ → ℕ → List ℕ → Effect
read-by now next es fd buffer len n given =
    cond (fd == 0)
    (record {
      core = moved_to (answered (stored_core now buffer n 0) n) next;
      raised = es ++ buffer_errors now ReadBuffer false buffer len;
      made = slice_index given;
      output = [];
    })
    (answer-by now next es (failure ebadf))

-- with whether there is room
abbrev write-by : Core → ℕ → List Event → ℕ → ℕ → ℕ → Bool → (ℕ → ℕ) → Effect
write-by now next es fd buffer len fits taken =
    cond (is_output fd)
    (cond fits
    (record {
      core = moved_to (answered now len) next;
      raised = es ++ buffer_errors now WriteBuffer true buffer len;
      made = no_bytes;
      output = bytes_taken taken len;
    })
    (answer-by now next es (failure enospc)))
    (answer-by now next es (failure ebadf))

abbrev write-cases : Core → ℕ → Bool → Bool → ℕ → ℕ → (ℕ → ℕ) → Effect
write-cases now next p q buffer len taken =
    cond p
    (cond q
    (record {
      core = moved_to (answered now len) next;
      raised = [] ++ buffer_errors now WriteBuffer true buffer len;
      made = no_bytes;
      output = bytes_taken taken len;
    })
    (answer-by now next [] (failure enospc)))
    (answer-by now next [] (failure ebadf))

abbrev write-span : ℕ → ℕ → ℕ → Bool → Option Span
write-span fd buffer len fits = cond (is_output fd && fits) (Some (span_at buffer len)) None

pub read-first : (c : Core) (next n : ℕ) (given : List ℕ) → NoUse (read_call c next n given).raised
    → NoUse (test-errors c read-parameters)
unfolding read_call parameters_of
read-first c next n given none = go (argument c 10 == 0) none
  where
    go : (b : Bool) → NoUse (cond b
        (record {
          core = moved_to (answered (stored_core (after-tests c read-parameters) (argument c 11) n 0) n) next;
          raised = test-errors c read-parameters ++ buffer_errors (after-tests c read-parameters) ReadBuffer false
              (argument c 11) (moved_len c);
          made = slice_index given;
          output = [];
        })
        (answer-by (after-tests c read-parameters) next (test-errors c read-parameters) (failure ebadf))).raised
        → NoUse (test-errors c read-parameters)
    go true none = left-none _ _ none
    go false none = none

pub write-first : (c : Core) (next written : ℕ) (taken : ℕ → ℕ) → NoUse (write_call c next written taken).raised
    → NoUse (test-errors c write-parameters)
unfolding write_call parameters_of
write-first c next written taken none = go (is_output (argument c 10)) (has_room c written) none
  where
    go : (b d : Bool) → NoUse (cond b (cond d
        (record {
          core = moved_to (answered (after-tests c write-parameters) (moved_len c)) next;
          raised = test-errors c write-parameters ++ buffer_errors (after-tests c write-parameters) WriteBuffer true
              (argument c 11) (moved_len c);
          made = no_bytes;
          output = bytes_taken taken (moved_len c);
        })
        (answer-by (after-tests c write-parameters) next (test-errors c write-parameters) (failure enospc)))
        (answer-by (after-tests c write-parameters) next (test-errors c write-parameters) (failure ebadf))).raised
        → NoUse (test-errors c write-parameters)
    go true true none = left-none _ _ none
    go true false none = none
    go false d none = none

none-bad : (c : Core) (start n : ℕ) → NoUse (buffer_errors c WriteBuffer true start n)
    → first_bad c.shadow start n true ≡ None
unfolding buffer_event
none-bad c start n none = go (first_bad c.shadow start n true) none
  where
    always : (b : Bool) → is_use (Param WriteBuffer (cond b Uninit Unaddressable)) ≡ true
    always true = refl
    always false = refl

    go : (o : Option Bad) → NoUse (buffer_event c.stack c.blocks (here c) WriteBuffer o) → o ≡ None
    go None none = refl
    go (Some bad) none = absurd (false≢true (sym none.0 ∙ always bad.accessible))

small-failure : (n : ℕ) → 0 < n → failure n < 2 ^ 32
small-failure n h = omega arith

module _ (c : Core) (qs : Held) (a : HeldAgree (held-of c) qs) (f g : ℕ → ℕ)
    (m : MemoriesAgree c.shadow f g) (next : ℕ) where
  answers-by : (n : ℕ) → n < 2 ^ 32
      → EffectsAgree f g None None (answer-by c next [] n) (answer-by (swap c qs) next [] n)
  unfolding set_register
  answers-by n small = record {
    registers = set-in qs 10 (known n);
    core = refl;
    agree = set-in-agrees (held-of c) qs a 10 _ _ (known-agrees n small);
    raised = refl;
    output = refl;
    memory = m;
  }

  -- read --

  reads-by : (fd buffer len n : ℕ) (given : List ℕ) → n < 2 ^ 32 → AreBytes (slice_index given)
      → EffectsAgree f g (cond (fd == 0) (Some (span_at buffer n)) None) (cond (fd == 0) (Some (span_at buffer n)) None)
      (read-by c next [] fd buffer len n given) (read-by (swap c qs) next [] fd buffer len n given)
  unfolding set_register
  reads-by fd buffer len n given small bytes = go (fd == 0)
    where
      go : (b : Bool)
          → EffectsAgree f g (cond b (Some (span_at buffer n)) None) (cond b (Some (span_at buffer n)) None)
          (cond b
          (record {
            core = moved_to (answered (stored_core c buffer n 0) n) next;
            raised = [] ++ buffer_errors c ReadBuffer false buffer len;
            made = slice_index given;
            output = [];
          })
          (answer-by c next [] (failure ebadf)))
          (cond b
          (record {
            core = moved_to (answered (stored_core (swap c qs) buffer n 0) n) next;
            raised = [] ++ buffer_errors (swap c qs) ReadBuffer false buffer len;
            made = slice_index given;
            output = [];
          })
          (answer-by (swap c qs) next [] (failure ebadf)))
      go true = record {
        registers = set-in qs 10 (known n);
        core = refl;
        agree = set-in-agrees (held-of c) qs a 10 _ _ (known-agrees n small);
        raised = refl;
        output = refl;
        memory = stored-agrees c.shadow f g m buffer n 0 (slice_index given) (slice_index given)
            (λ i h j l e. refl) bytes
            bytes;
      }
      go false = answers-by (failure ebadf) (small-failure 9 (omega arith))

  pub reads : (n : ℕ) (given : List ℕ) → n < 2 ^ 32 → AreBytes (slice_index given)
      → NoUse (read_call c next n given).raised
      → EffectsAgree f g (read_uses c n).writes (read_uses (swap c qs) n).writes (read_call c next n given)
      (read_call (swap c qs) next n given)
  unfolding read_call moved_len parameters_of
  reads n given small bytes none =
      let known = call-known c read-parameters (read-first c next n given none) in
      let known' = call-others c qs a read-parameters known in
      let now = call-tested c read-parameters known in
      let now' = call-tested (swap c qs) read-parameters known' in
      let es = call-raises c read-parameters known in
      let es' = call-raises (swap c qs) read-parameters known' in
      let x = same-argument c qs a 10 known.1.0 in
      let y = same-argument c qs a 11 known.1.1.0 in
      let z = same-argument c qs a 12 known.1.1.1.0 in
      carried-along f g _ _ _ _ _ _ _ _ refl (λ i. cond (x i == 0) (Some (span_at (y i) n)) None)
      (λ i. read-by (sym now i) next (sym es i) (argument c 10) (argument c 11) (moved_len c) n given)
      (λ i. read-by (sym now' i) next (sym es' i) (x i) (y i)
      (moved_from_start c.shadow (y i) (min (z i) c.limits.most_moved)) n given)
      (reads-by (argument c 10) (argument c 11) (moved_len c) n given small bytes)

  -- write --

  taken-same : (buffer len : ℕ) → first_bad c.shadow buffer len true ≡ None → window f buffer len ≡ window g buffer len
  unfolding window
  taken-same buffer len good = fun_ext (λ i. go i (nat_lt i len) refl)
    where
      go : (i : ℕ) (b : Bool) → nat_lt i len ≡ b → cond b (f (above buffer i)) 0 ≡ cond b (g (above buffer i)) 0
      go i true e = good-byte c.shadow f g m (above buffer i) (good-from c.shadow buffer len good i (ltb-true i len e))
      go i false e = refl

  writes-by : (fd buffer len : ℕ) (fits : Bool) → len < 2 ^ 32
      → NoUse (write-by c next [] fd buffer len fits (taken_from f (write-span fd buffer len fits))).raised
      → EffectsAgree f g None None
      (write-by c next [] fd buffer len fits (taken_from f (write-span fd buffer len fits)))
      (write-by (swap c qs) next [] fd buffer len fits (taken_from g (write-span fd buffer len fits)))
  unfolding set_register
  writes-by fd buffer len fits small none = go (is_output fd) fits none
    where
      go : (p q : Bool)
          → NoUse
          (write-cases c next p q buffer len (taken_from f (cond (p && q) (Some (span_at buffer len)) None))).raised
          → EffectsAgree f g None None
          (write-cases c next p q buffer len (taken_from f (cond (p && q) (Some (span_at buffer len)) None)))
          (write-cases (swap c qs) next p q buffer len (taken_from g (cond (p && q) (Some (span_at buffer len)) None)))
      go true true none =
          let same = taken-same buffer len (none-bad c buffer len none) in
          record {
            registers = set-in qs 10 (known len);
            core = refl;
            agree = set-in-agrees (held-of c) qs a 10 _ _ (known-agrees len small);
            raised = refl;
            output = ap (λ taken. bytes_taken taken len) same;
            memory = m;
          }
      go true false none = answers-by (failure enospc) (small-failure 28 (omega arith))
      go false q none = answers-by (failure ebadf) (small-failure 9 (omega arith))

  pub writes : (written : ℕ) → NoUse (write_call c next written (taken_from f (write_uses c written).reads)).raised
      → EffectsAgree f g None None (write_call c next written (taken_from f (write_uses c written).reads))
      (write_call (swap c qs) next written (taken_from g (write_uses (swap c qs) written).reads))
  unfolding write_call moved_len appends parameters_of
  writes written none =
      let known = call-known c write-parameters (write-first c next written _ none) in
      let known' = call-others c qs a write-parameters known in
      let now = call-tested c write-parameters known in
      let now' = call-tested (swap c qs) write-parameters known' in
      let es = call-raises c write-parameters known in
      let es' = call-raises (swap c qs) write-parameters known' in
      let x = same-argument c qs a 10 known.1.0 in
      let y = same-argument c qs a 11 known.1.1.0 in
      let z = same-argument c qs a 12 known.1.1.1.0 in
      let few : moved_len c < 2 ^ 32 = moved-small c (register-agrees c qs a 12).one in
      let moved : moved_len c ≡ moved_len (swap c qs) =
      λ i. moved_from_start c.shadow (y i) (min (z i) c.limits.most_moved) in
      let fits : has_room c written ≡ has_room (swap c qs) written =
      λ i. nat_le (written + moved i) c.limits.most_output in
      let quiet' =
      subst (λ (e : Effect). NoUse e.raised) (λ i. write-by (now i) next (es i) (argument c 10) (argument c 11)
      (moved_len c) (has_room c written)
      (taken_from f (write-span (argument c 10) (argument c 11) (moved_len c) (has_room c written)))) none in
      carried-along f g _ _ _ _ _ _ _ _ refl refl
      (λ i. write-by (sym now i) next (sym es i) (argument c 10) (argument c 11) (moved_len c) (has_room c written)
      (taken_from f (write-span (argument c 10) (argument c 11) (moved_len c) (has_room c written))))
      (λ i. write-by (sym now' i) next (sym es' i) (x i) (y i) (moved i) (fits i)
      (taken_from g (write-span (x i) (y i) (moved i) (fits i))))
      (writes-by (argument c 10) (argument c 11) (moved_len c) (has_room c written) few quiet')

  -- exit, and a number that is no call --

  exits-by : (ps : List Parameter) → IsKnown c 10 → HasKnown c ps
      → EffectsAgree f g None None (raising (exited (after-tests c ps) (argument c 10 % 256)) (test-errors c ps))
      (raising (exited (after-tests (swap c qs) ps) (argument (swap c qs) 10 % 256)) (test-errors (swap c qs) ps))
  exits-by ps first known =
      let known' = call-others c qs a ps known in
      let x = same-argument c qs a 10 first in
      carried-along f g _ _ _ _ _ _ _ _ refl refl
      (λ i. raising (exited (sym (call-tested c ps known) i) (argument c 10 % 256)) (sym (call-raises c ps known) i))
      (λ i. raising (exited (sym (call-tested (swap c qs) ps known') i) (x i % 256))
      (sym (call-raises (swap c qs) ps known') i))
      (record { registers = qs; core = refl; agree = a; raised = refl; output = refl; memory = m })

  pub exits : (parameter : Parameter)
      → NoUse (test-errors c (parameter ∷ []))
      → EffectsAgree f g None None
      (raising (exited (after-tests c (parameter ∷ [])) (argument c 10 % 256)) (test-errors c (parameter ∷ [])))
      (raising (exited (after-tests (swap c qs) (parameter ∷ [])) (argument (swap c qs) 10 % 256))
      (test-errors (swap c qs) (parameter ∷ [])))
  exits parameter none =
      let known = call-known c (parameter ∷ []) none in exits-by (parameter ∷ []) known.1.0 known

  pub unknowns : NoUse (test-errors c [])
      → EffectsAgree f g None None (answer-by (after-tests c []) next (test-errors c []) (failure enosys))
      (answer-by (after-tests (swap c qs) []) next (test-errors (swap c qs) []) (failure enosys))
  unknowns none =
      let known = call-known c [] none in
      let known' = call-others c qs a [] known in
      carried-along f g _ _ _ _ _ _ _ _ refl refl
      (λ i. answer-by (sym (call-tested c [] known) i) next (sym (call-raises c [] known) i) (failure enosys))
      (λ i. answer-by (sym (call-tested (swap c qs) [] known') i) next (sym (call-raises (swap c qs) [] known') i)
      (failure enosys))
      (answers-by (failure enosys) (small-failure 38 (omega arith)))
