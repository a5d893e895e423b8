-- A write of bytes that may be any.
use Rattle.std.proofs.Common.{◌≡◌, ℕ, zero, suc, ◌+◌, ◌<◌, ◌≤◌, ◌==◌, ◌&&◌, Bool, true, false, cond, refl, sym, ap}
use Rattle.std.proofs.Common.{◌∙◌, subst, arith, List, [], ◌∷◌, ◌++◌, Option, Some, None, nat_lt}
use Rattle.std.proofs.Common.{le-ltb}
use Rattle.std.specs.Prelude.{is_none}
use Rattle.std.proofs.lemmas.Bool.{and_parts, false≢true}
use Rattle.error_events.specs.declared.event.Event.{Event}
use Rattle.error_events.specs.declared.kind.Kind.TheVariants.{Value, Param}
use Rattle.error_events.specs.declared.kind.ParameterFault.TheVariants.{Uninit, Unaddressable}
use Rattle.error_events.specs.declared.parameter.Parameter.TheVariants.{WriteBuffer}
use Rattle.guest_elf.specs.declared.hook.Hook.{Hook}
use Rattle.guest_elf.specs.Profiles.{is_half}
use Rattle.instructions.specs.Codes.{len_of}
use Rattle.instructions.specs.declared.code.Code.TheVariants.{Word, Half}
use Rattle.shadow_memory.specs.Ranges.{first_from, above}
use Rattle.shadow_memory.specs.Shadows.{first_inaccessible, first_bad, bad_at, is_bad}
use Rattle.guest_machine.specs.State.{Core}
use Rattle.shadow_memory.specs.declared.cells.RangeKind.TheVariants.{NoAccess, Undefined}
use Rattle.std.proofs.lemmas.List.{get_or-set_other}
use Rattle.guest_machine.specs.Registers.{known, register, set_register}
use Rattle.guest_machine.specs.StackPointer.{stack_ruled, stack_moved, is_stack_pointer, framed}
use Rattle.guest_machine.specs.Errors.{here, fetch_undef, buffer_errors, buffer_event, event_unless, event_of, note_at}
use Rattle.guest_machine.specs.Effects.{Effect, moved_to, no_bytes}
use Rattle.guest_machine.specs.Calls.{argument, answered, appends, moved_len, bytes_taken, write_call}
use Rattle.guest_machine.specs.Calls.{is_output, has_room, parameters_of}
use Rattle.guest_machine.specs.Exec.{Action, Takes, Cut, CallsByName, Halts, action_at, fetched, fetch_by, fetches}
use Rattle.guest_machine.specs.Exec.{half_at}
use Rattle.guest_machine.specs.Exec.{word_at, word_fault, rounded, called_here, action_by}
use Rattle.guest_machine.proofs.Fetching.{half-by-word, two_there}
use Rattle.clean_reports.specs.Agreement.{MemoriesAgree}
use Rattle.clean_reports.specs.Uses.{NoUse}
use Rattle.clean_reports.proofs.Memory.{accessible-from}
use Rattle.clean_reports.proofs.Registers as Clean
use Rattle.clean_reports.proofs.Stack.{half-same, word-same}
use Rattle.any_runs.specs.Echoes.{is_echo, kept}
use Rattle.any_runs.proofs.Calls.{write-parameters, write-cases}
use Rattle.any_runs.proofs.Kept.{AllKept, kept-append}
use Rattle.any_runs.proofs.Tests.{HasKnown, left-none, right-none}
use Rattle.any_runs.proofs.Tests.{call-tested, call-raises}

-- parts of errors of which none that is kept is a use

pub left-kept : (xs ys : List Event) → NoUse (kept (xs ++ ys)) → NoUse (kept xs)
left-kept xs ys none = left-none (kept xs) (kept ys) (subst NoUse (kept-append xs ys) none)

pub right-kept : (xs ys : List Event) → NoUse (kept (xs ++ ys)) → NoUse (kept ys)
right-kept xs ys none = right-none (kept xs) (kept ys) (subst NoUse (kept-append xs ys) none)

pub none-of : (es : List Event) → AllKept es → NoUse (kept es) → NoUse es
none-of es all none = subst NoUse all none

-- the stack pointer rule, where x2 stays

still-moved : (k : Core) (v : ℕ) → stack_moved k v v ≡ k
unfolding stack_moved
still-moved k v =
    let no : nat_lt v v ≡ false = le-ltb v v (omega arith) in
    λ i. cond (no i) (framed k v v
    Undefined)
    (cond (no i) (framed k v v
    NoAccess) k)

pub ruled-still : (c k : Core) → register k 2 ≡ register c 2 → stack_ruled (register c 2) k ≡ k
unfolding stack_ruled
ruled-still c k same =
    go (is_stack_pointer k.stack (register c 2) && is_stack_pointer k.stack (register k 2))
  where
    go : (b : Bool) → cond b (stack_moved k (register c 2).value (register k 2).value) k ≡ k
    go true = (λ i. stack_moved k (register c 2).value (same i).value) ∙ still-moved k (register c 2).value
    go false = refl

-- a buffer that may be accessed has at most undefined bytes

found-below : (p : ℕ → Bool) (i n k : ℕ) → first_from p i n ≡ Some k → (i ≤ k) × (k < i + n)
unfolding first_from
found-below p i zero k e = cc
found-below p i (suc n) k e = go (p i) (found-below p (suc i) n k) e
  where
    go : (b : Bool) → (first_from p (suc i) n ≡ Some k → (suc i ≤ k) × (k < suc i + n))
        → cond b (Some i) (first_from p (suc i) n) ≡ Some k → (i ≤ k) × (k < i + suc n)
    go true rest e = let same : i ≡ k = cc in (omega (arith, same), omega (arith, same))
    go false rest e = let r = rest e in (omega (arith, r.0), omega (arith, r.1))

buffer-kept : (c : Core) (start n : ℕ) → first_inaccessible c.shadow start n ≡ None
    → kept (buffer_errors c WriteBuffer true start n) ≡ []
unfolding buffer_event kept first_bad
buffer-kept c start n opened = go (first_from (λ i. is_bad true (c.shadow (above start i))) 0 n) refl
  where
    one : (a : Bool) → a ≡ true → is_echo (Param WriteBuffer (cond a Uninit Unaddressable)) ≡ true
    one true e = refl
    one false e = absurd (false≢true e)

    go : (o : Option ℕ) → first_from (λ i. is_bad true (c.shadow (above start i))) 0 n ≡ o
        → kept (buffer_event c.stack c.blocks (here c) WriteBuffer (bad_at c.shadow start o)) ≡ []
    go None e = refl
    go (Some k) e =
        let less = (found-below (λ i. is_bad true (c.shadow (above start i))) 0 n k e).1 in
        let below : k < n = omega (arith, less) in
        ap (λ b. cond b [] (event_of (here c) (Param WriteBuffer
        (cond (c.shadow (above start k)).accessible Uninit Unaddressable))
        (note_at c.stack c.blocks (above start k)) ∷ []))
        (one (c.shadow (above start k)).accessible
        (accessible-from c.shadow start n opened k below))

-- what a write that is carried out leaves

pub record WriteIs (c : Core) (next : ℕ) (taken : ℕ → ℕ) (e : Effect) : Type 0 where
  pub core : e.core ≡ moved_to (answered c (moved_len c)) next
  pub raised : kept e.raised ≡ []
  pub made : e.made ≡ no_bytes
  pub output : e.output ≡ bytes_taken taken (moved_len c)

write-known : (c : Core) (next written : ℕ) (taken : ℕ → ℕ) → HasKnown c write-parameters → appends c written ≡ true
    → first_inaccessible c.shadow (argument c 11) (moved_len c) ≡ None
    → WriteIs c next taken (write_call c next written taken)
unfolding write_call appends parameters_of
write-known c next written taken known fits opened =
    let parts = and_parts (is_output (argument c 10)) (has_room c written) fits in
    subst (λ (e : Effect). WriteIs c next taken e)
    (λ i. write-cases (sym (call-tested c write-parameters known) i) next (sym (call-raises c write-parameters known) i)
    (sym parts.0 i) (sym parts.1 i) (argument c 11) (moved_len c) taken)
    (record { core = refl; raised = buffer-kept c (argument c 11) (moved_len c) opened; made = refl; output = refl })

pub register-after : (c : Core) (n next : ℕ) → register (moved_to (answered c n) next) 2 ≡ register c 2
unfolding register set_register
register-after c n next =
    get_or-set_other c.registers 10 2 (known n) (known 0) (λ e. absurd (omega (arith, e)))

pub write-rounded : (c : Core) (len next written : ℕ) (taken : ℕ → ℕ) → fetch_undef c len ≡ 0
    → HasKnown c write-parameters → appends c written ≡ true
    → first_inaccessible c.shadow (argument c 11) (moved_len c) ≡ None
    → WriteIs c next taken (rounded c len (write_call c next written taken))
unfolding event_unless
write-rounded c len next written taken defined known fits opened =
    let x = write-known c next written taken known fits opened in
    record {
      core = ap (stack_ruled (register c 2)) x.core
          ∙ ruled-still c (moved_to (answered c (moved_len c)) next) (register-after c (moved_len c) next);
      raised = (λ i. kept (event_unless (defined i == 0) (here c) Value ++ (write_call c next written taken).raised))
          ∙ x.raised;
      made = x.made;
      output = x.output;
    }

-- both states make the write --

module _ (c : Core) (qs : Clean.Held) (a : Clean.HeldAgree (Clean.held-of c) qs) (f g : ℕ → ℕ)
    (m : MemoriesAgree c.shadow f g) where
  -- what is fetched is defined
  abbrev pub IsFetched : Action → Type 0
  IsFetched (Takes code) = fetch_undef c (len_of code) ≡ 0
  IsFetched Cut = fetch_undef c 2 ≡ 0
  IsFetched (CallsByName function) = Unit {0}
  IsFetched Halts = Unit {0}

  fetched-alike : IsFetched (fetched c f) → fetched c f ≡ fetched (Clean.swap c qs) g
  unfolding fetched fetches
  fetched-alike none = go (fetches c) (is_half c.isa (half_at c f)) (word_fault c) refl refl refl none
    where
      go : (may short : Bool) (fault : Option ℕ) → fetches c ≡ may → is_half c.isa (half_at c f) ≡ short
          → word_fault c ≡ fault
          → IsFetched (fetch_by may short (is_none fault) (half_at c f) (word_at c f))
          → fetch_by may short (is_none fault) (half_at c f) (word_at c f)
          ≡ fetch_by may (is_half c.isa (half_at c g)) (is_none fault) (half_at c g) (word_at c g)
      go false short fault e k n none = refl
      go true true fault e k n none =
          let half = half-same c qs a f g m (two_there c e) none in
          ap (λ h. Takes (Half h)) half
          ∙ ap (λ b. fetch_by true b (is_none fault) (half_at c g) (word_at c g))
          (sym (ap (is_half c.isa) (sym half) ∙ k))
      go true false None e k n none =
          let word = word-same c qs a f g m n none in
          ap (λ h. Takes (Word h)) word
          ∙ ap (λ b. fetch_by true b true (half_at c g) (word_at c g))
          (sym (half-by-word c.isa f g c.pc word ∙ k))
      go true false (Some x) e k n none =
          let half = half-same c qs a f g m (two_there c e) none in
          ap (λ b. fetch_by true b false (half_at c g) (word_at c g))
          (sym (ap (is_half c.isa) (sym half) ∙ k))

  pub action-alike : (hooks : List (ℕ × Hook)) → IsFetched (action_at c f hooks)
      → action_at c f hooks ≡ action_at (Clean.swap c qs) g hooks
  unfolding called_here
  action-alike hooks none = go (called_here c hooks) none
    where
      go : (function : Option Hook) → IsFetched (action_by function (fetched c f))
          → action_by function (fetched c f) ≡ action_by function (fetched (Clean.swap c qs) g)
      go (Some function) none = refl
      go None none = fetched-alike none
