-- Effects with fewer undefined bits, of the heap calls by number and by name.
use Rattle.std.proofs.Common.{◌≡◌, ℕ, ◌+◌, ◌-◌, ◌*◌, ◌/◌, min, max, Bool, true, false, refl, sym, ap, ◌∙◌, subst}
use Rattle.std.proofs.Common.{List, [], ◌++◌, Option, Some, None}
use Rattle.error_events.specs.declared.event.Event.{Event}
use Rattle.error_events.specs.declared.kind.Kind.TheVariants.{Value}
use Rattle.shadow_memory.specs.Shadows.{Shadow, made_so, copied_undef}
use Rattle.shadow_memory.specs.declared.cells.RangeKind.{RangeKind}
use Rattle.shadow_memory.specs.declared.cells.RangeKind.TheVariants.{NoAccess, Undefined, Defined}
use Rattle.run_values.specs.declared.status.Stop.TheVariants.{Misaligned}
use Rattle.guest_elf.specs.declared.hook.Hook.{Hook}
use Rattle.guest_elf.specs.declared.hook.Hook.TheVariants.{Malloc, Free, Calloc, Realloc}
use Rattle.guest_heap.specs.Steps.{place}
use Rattle.guest_heap.specs.declared.released.Released.{Released}
use Rattle.guest_heap.specs.declared.released.Released.TheVariants.{Done, Nothing, Invalid}
use Rattle.guest_machine.specs.State.{Core}
use Rattle.guest_machine.specs.Registers.{known, set_register, tested}
use Rattle.guest_machine.specs.Errors.{value_errors}
use Rattle.guest_machine.specs.Effects.{Effect, raising, moved_to, stopped, no_bytes}
use Rattle.guest_machine.specs.Calls.{argument, answered, heap_parameters, tested_from, errors_from, parameters_of}
use Rattle.guest_machine.specs.HeapCalls.{placed, carved, block_at, freed, released_here, free_errors}
use Rattle.guest_machine.specs.HeapCalls.{Resizing, Allocates, Refuses, Frees, Keeps, Moves, resizing}
use Rattle.guest_machine.specs.HeapCalls.{copied, resized, resize_errors, heap_work, between, heap_call}
use Rattle.guest_machine.specs.NamedCalls.{return_address, named_tested, named_errors, returned_to, named_by}
use Rattle.any_runs.specs.Sharper.{ShadowsSharper}
use Rattle.clean_reports.specs.Uses.{NoUse}
use Rattle.any_runs.proofs.Memory.{made-sharper, copied-sharper}
use Rattle.any_runs.proofs.Held.{Held, HeldSharper, held-of, swap, set-in, shaded, set-in-sharper, known-sharper}
use Rattle.any_runs.proofs.Held.{same-argument, other-known, others-known, call-others}
use Rattle.any_runs.proofs.Tests.{IsKnown, AreKnown, left-none, right-none, known-by, no-errors, tested-same, all-known}
use Rattle.any_runs.proofs.Tests.{all-tested, none-raised, test-errors, call-known, call-tested, call-raises}
use Rattle.any_runs.proofs.Effects.{EffectsSharper, carried}

-- a core with other shadows keeps what is sharper
reshaded : (x y : Held) → HeldSharper x y → (f g : ℕ → Shadow) → ShadowsSharper f g
    → HeldSharper (shaded x f) (shaded y g)
reshaded x y a f g s = record { registers = a.registers; controls = a.controls; shadow = s }

-- free
frees : (c : Core) (qs : Held) → HeldSharper (held-of c) qs → (released : Released) (n : ℕ) (es others : List Event)
    (volume : ℕ) → es ≡ others
    → EffectsSharper (raising (answered (freed c released volume) n) es)
    (raising (answered (freed (swap c qs) released volume) n) others)
unfolding freed set_register
frees c qs a (Done b) n es others volume same =
    let f = made_so c.shadow b.start b.size NoAccess in
    let g = made_so qs.shadow b.start b.size NoAccess in
    let now = reshaded (held-of c) qs a f g (made-sharper c.shadow qs.shadow a.shadow b.start b.size NoAccess) in
    record {
      held = set-in (shaded qs g) 10 (known n);
      core = refl;
      agree = set-in-sharper (shaded (held-of c) f) (shaded qs g) now 10 _ _ (known-sharper n);
      raised = same;
      made = refl;
      output = refl;
    }
frees c qs a Nothing n es others volume same = record {
  held = set-in qs 10 (known n);
  core = refl;
  agree = set-in-sharper (held-of c) qs a 10 _ _ (known-sharper n);
  raised = same;
  made = refl;
  output = refl;
}
frees c qs a Invalid n es others volume same = record {
  held = set-in qs 10 (known n);
  core = refl;
  agree = set-in-sharper (held-of c) qs a 10 _ _ (known-sharper n);
  raised = same;
  made = refl;
  output = refl;
}

module _ (c : Core) (qs : Held) (a : HeldSharper (held-of c) qs) where
  abbrev d : Core
  d = swap c qs

  -- an effect that only answers
  answer-only : (n : ℕ) (es others : List Event) (made : ℕ → ℕ) → es ≡ others
      → EffectsSharper (record { core = answered c n; raised = es; made = made; output = [] })
      (record { core = answered d n; raised = others; made = made; output = [] })
  unfolding set_register
  answer-only n es others made same = record {
    held = set-in qs 10 (known n);
    core = refl;
    agree = set-in-sharper (held-of c) qs a 10 _ _ (known-sharper n);
    raised = same;
    made = refl;
    output = refl;
  }

  -- the shadows of a new block
  abbrev block-shadow : (ℕ → Shadow) → ℕ → ℕ → ℕ → RangeKind → ℕ → Shadow
  block-shadow f p size redzone kind =
      made_so (made_so f (p - redzone) (redzone + max size 1 + redzone) NoAccess) p size kind

  block-sharper : (p size redzone : ℕ) (kind : RangeKind)
      → ShadowsSharper (block-shadow c.shadow p size redzone kind) (block-shadow qs.shadow p size redzone kind)
  block-sharper p size redzone kind =
      made-sharper _ _
      (made-sharper c.shadow qs.shadow a.shadow (p - redzone) (redzone + max size 1 + redzone) NoAccess) p size kind

  -- malloc and calloc
  gives : (size redzone : ℕ) (kind : RangeKind) (o : Option ℕ) (made : ℕ → ℕ)
      → EffectsSharper (record { core = block_at c o size redzone kind; raised = []; made = made; output = [] })
      (record { core = block_at d o size redzone kind; raised = []; made = made; output = [] })
  unfolding block_at set_register answer-only
  gives size redzone kind None made = answer-only 0 [] [] made refl
  gives size redzone kind (Some p) made =
      let f = block-shadow c.shadow p size redzone kind in
      let g = block-shadow qs.shadow p size redzone kind in
      let now = reshaded (held-of c) qs a f g (block-sharper p size redzone kind) in
      record {
        held = set-in (shaded qs g) 10 (known p);
        core = refl;
        agree = set-in-sharper (shaded (held-of c) f) (shaded qs g) now 10 _ _ (known-sharper p);
        raised = refl;
        made = refl;
        output = refl;
      }

  free-same : (released : Released) (x : ℕ) → free_errors c released x ≡ free_errors d released x
  unfolding free_errors
  free-same (Done b) x = refl
  free-same Nothing x = refl
  free-same Invalid x = refl

  -- realloc, by which of its five cases it is
  abbrev resize-by : Core → ℕ → ℕ → ℕ → ℕ → Resizing → (ℕ → ℕ) → Effect
  resize-by k x y redzone volume what taken = record {
    core = resized k x y redzone volume what;
    raised = resize_errors k x what;
    made = taken;
    output = [];
  }

  resizes : (x y redzone volume : ℕ) (what : Resizing) (taken : ℕ → ℕ)
      → EffectsSharper (resize-by c x y redzone volume what taken) (resize-by d x y redzone volume what taken)
  unfolding resized resize_errors set_register
  resizes x y redzone volume Allocates taken = gives y redzone Undefined (place c.blocks y redzone) taken
  resizes x y redzone volume Refuses taken = answer-only 0 _ _ taken refl
  resizes x y redzone volume Frees taken =
      let moved = frees c qs a (released_here c x) 0 [] [] volume refl in
      record {
        held = moved.held;
        core = moved.core;
        agree = moved.agree;
        raised = refl;
        made = refl;
        output = refl;
      }
  resizes x y redzone volume Keeps taken = answer-only 0 [] [] taken refl
  resizes x y redzone volume (Moves b q) taken =
      let n = min b.size y in
      let f = copied_undef (block-shadow c.shadow q y redzone Undefined) x q n in
      let g = copied_undef (block-shadow qs.shadow q y redzone Undefined) x q n in
      let full = copied (carved (placed c (Some q) y redzone) q y redzone Undefined) x q n in
      let now = reshaded (held-of c) qs a f g (copied-sharper _ _ (block-sharper q y redzone Undefined) x q n) in
      let moved = frees full (shaded qs g) now (released_here full x) q [] [] volume refl in
      record {
        held = moved.held;
        core = moved.core;
        agree = moved.agree;
        raised = refl;
        made = refl;
        output = refl;
      }

  -- the work of a function, with its two arguments
  pub works : (function : Hook) (x y redzone volume : ℕ) (taken : ℕ → ℕ)
      → EffectsSharper (heap_work function c x y redzone volume taken) (heap_work function d x y redzone volume taken)
  unfolding heap_work
  works Malloc x y redzone volume taken = gives x redzone Undefined (place c.blocks x redzone) no_bytes
  works Free x y redzone volume taken =
      frees c qs a (released_here c x) 0 _ _ volume (free-same (released_here c x) x)
  works Calloc x y redzone volume taken = gives (x * y) redzone Defined (place c.blocks (x * y) redzone) no_bytes
  works Realloc x y redzone volume taken = resizes x y redzone volume (resizing c.blocks x y redzone) taken

-- what comes before and after the work --

followed-by : (e h : Effect) (es : List Event) (last : Core → Core)
    → ((k : Core) (qs : Held) → last (swap k qs) ≡ swap (last k) qs) → ((k : Core) → held-of (last k) ≡ held-of k)
    → EffectsSharper e h → EffectsSharper (between es e last) (between es h last)
followed-by e h es last shape same x = record {
  held = x.held;
  core = ap last x.core ∙ shape e.core x.held;
  agree = subst (λ k. HeldSharper k x.held) (sym (same e.core)) x.agree;
  raised = ap (λ r. es ++ r) x.raised;
  made = x.made;
  output = x.output;
}

pub heap-first : (c : Core) (next : ℕ) (function : Hook) (redzone volume : ℕ) (taken : ℕ → ℕ)
    → NoUse (heap_call function c next redzone volume taken).raised → NoUse (test-errors c (heap_parameters function))
unfolding parameters_of
heap-first c next function redzone volume taken none = left-none _ _ none

module _ (c : Core) (qs : Held) (a : HeldSharper (held-of c) qs) (function : Hook) (redzone volume : ℕ)
    (taken : ℕ → ℕ) where
  abbrev e : Core
  e = swap c qs

  pub heap-calls : (next : ℕ) → NoUse (heap_call function c next redzone volume taken).raised
      → EffectsSharper (heap_call function c next redzone volume taken) (heap_call function e next redzone volume taken)
  unfolding parameters_of
  heap-calls next none =
      let ps = heap_parameters function in
      let known = call-known c ps (heap-first c next function redzone volume taken none) in
      let known' = call-others c qs a ps known in
      let x = same-argument c qs a 10 in
      let y = same-argument c qs a 11 in
      carried _ _ _ _
      (λ i. between (sym (call-raises c ps known) i)
      (heap_work function (sym (call-tested c ps known) i) (argument c 10) (argument c 11) redzone volume taken)
      (λ after. moved_to after next))
      (λ i. between (sym (call-raises e ps known') i)
      (heap_work function (sym (call-tested e ps known') i) (x i) (y i) redzone volume taken)
      (λ after. moved_to after next))
      (followed-by _ _ [] (λ after. moved_to after next) (λ k qs. refl) (λ k. refl)
      (works c qs a function (argument c 10) (argument c 11) redzone volume taken))

  -- a call by name, by whether x1 is a place to return to
  named-known : IsKnown c 1 → NoUse (named_errors c function) → AreKnown c 10 (heap_parameters function)
  named-known one none =
      all-known c 10 (heap_parameters function) (subst (λ now. NoUse (errors_from now 10 (heap_parameters function)))
      (tested-same c 1 one) (right-none (value_errors c 1) _ none))

  named-tested : (k : Core) → IsKnown k 1 → AreKnown k 10 (heap_parameters function) → named_tested k function ≡ k
  named-tested k one known =
      ap (λ now. tested_from now 10 (heap_parameters function)) (tested-same k 1 one)
      ∙ all-tested k 10 (heap_parameters function) known

  named-raises : (k : Core) → IsKnown k 1 → AreKnown k 10 (heap_parameters function) → named_errors k function ≡ []
  named-raises k one known =
      ap (λ es. es ++ errors_from (tested k 1) 10 (heap_parameters function)) (no-errors k 1 Value one)
      ∙ ap (λ now. errors_from now 10 (heap_parameters function)) (tested-same k 1 one)
      ∙ none-raised k 10 (heap_parameters function) known

  pub same-return : return_address c ≡ return_address e
  same-return = ap (λ n. n / 2 * 2) (same-argument c qs a 1)

  pub named-calls : (b : Bool) → NoUse (named_by b function c redzone volume taken).raised
      → EffectsSharper (named_by b function c redzone volume taken) (named_by b function e redzone volume taken)
  unfolding named_by
  named-calls true none =
      let one = known-by c 1 Value refl (left-none _ _ (left-none _ _ none)) in
      let known = named-known one (left-none _ _ none) in
      let one' = other-known c qs a 1 one in
      let known' = others-known c qs a 10 (heap_parameters function) known in
      let x = same-argument c qs a 10 in
      let y = same-argument c qs a 11 in
      carried _ _ _ _
      (λ i. between (sym (named-raises c one known) i)
      (heap_work function (sym (named-tested c one known) i) (argument c 10) (argument c 11) redzone volume taken)
      (returned_to (return_address c)))
      (λ i. between (sym (named-raises e one' known') i)
      (heap_work function (sym (named-tested e one' known') i) (x i) (y i) redzone volume taken)
      (returned_to (same-return i)))
      (followed-by _ _ [] (returned_to (return_address c)) (λ k qs. refl) (λ k. refl)
      (works c qs a function (argument c 10) (argument c 11) redzone volume taken))
  named-calls false none =
      let one = known-by c 1 Value refl none in
      let one' = other-known c qs a 1 one in
      carried _ _ _ _
      (λ i. raising (stopped (sym (tested-same c 1 one) i) Misaligned) (sym (no-errors c 1 Value one) i))
      (λ i. raising (stopped (sym (tested-same e 1 one') i) Misaligned) (sym (no-errors e 1 Value one') i))
      (record { held = qs; core = refl; agree = a; raised = refl; made = refl; output = refl })
