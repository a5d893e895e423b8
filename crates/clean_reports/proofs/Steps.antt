-- From states that agree, a whole step leads to states that agree.
use Rattle.std.proofs.Common.{◌≡◌, ℕ, ◌+◌, ◌^◌, Bool, true, false, cond, refl, sym, ap, arith}
use Rattle.std.proofs.Common.{◌∙◌, subst, subst₂, List, ◌++◌, length, Option, Some, None, ◌==◌}
use Rattle.std.proofs.lemmas.Nat.{mod_below}
use Rattle.error_events.specs.declared.kind.Kind.TheVariants.{Value}
use Rattle.guest_elf.specs.declared.hook.Hook.{Hook}
use Rattle.error_events.specs.declared.event.Event.{Event}
use Rattle.instructions.specs.Codes.{len_of, row_of_code}
use Rattle.instructions.specs.declared.code.Code.TheVariants.{Word, Half}
use Rattle.run_values.specs.declared.span.Span.{Span}
use Rattle.run_values.specs.declared.status.Stop.TheVariants.{Misaligned}
use Rattle.std.specs.Prelude.{is_none}
use Rattle.guest_elf.specs.Profiles.{is_aligned, is_half}
use Rattle.guest_machine.specs.State.{Core, State}
use Rattle.guest_machine.specs.Registers.{register}
use Rattle.guest_machine.specs.Errors.{here, fetch_undef, fetch_errors}
use Rattle.guest_machine.specs.Effects.{Effect, next_of, quiet, stops}
use Rattle.guest_machine.specs.StackPointer.{stack_ruled}
use Rattle.guest_machine.specs.NamedCalls.{returns, named_by}
use Rattle.guest_machine.specs.Exec.{Action, Takes, Cut, CallsByName, Halts, Terms, terms_of, action_terms, plan}
use Rattle.guest_machine.specs.Exec.{outcome}
use Rattle.guest_machine.specs.Exec.{rounded}
use Rattle.guest_machine.specs.Exec.{is_heap_action, given_at, taken_from, written_to, named_uses_by, unfetched}
use Rattle.guest_machine.specs.Exec.{jump_fault, is_running, fetch_fault, fetches, fetched, called_here}
use Rattle.guest_machine.specs.Exec.{action_by, fetch_by, half_at, word_at, word_fault}
use Rattle.guest_machine.proofs.Fetching.{half-by-word, two_there}
use Rattle.guest_machine.specs.Exec.{action_at, exec, intake_at, uses_at, effect_at, outcome_at, seen_also, counted}
use Rattle.guest_machine.specs.Exec.{stepped}
use Rattle.guest_machine.specs.declared.setup.Setup.{Setup}
use Rattle.clean_reports.specs.Agreement.{ControlsAgree, RegistersAgree, MemoriesAgree, StatesAgree}
use Rattle.clean_reports.specs.Uses.{NoUse}
use Rattle.clean_reports.specs.Heap.{BlocksAreOpen}
use Rattle.clean_reports.specs.Disturbed.{HasBytes}
use Rattle.clean_reports.proofs.Registers.{Held, HeldAgree, held-of, swap, register-agrees, left-none, right-none}
use Rattle.clean_reports.proofs.Registers.{no-event}
use Rattle.clean_reports.proofs.Effects.{EffectsAgree}
use Rattle.clean_reports.proofs.HeapCalls.{named-first, named-calls, same-return}
use Rattle.clean_reports.proofs.Stack.{half-same, rules, word-same}
use Rattle.clean_reports.proofs.Rows.{BothAgree, code-small, row-agrees}

module _ (c : Core) (qs : Held) (a : HeldAgree (held-of c) qs) (f g : ℕ → ℕ)
    (m : MemoriesAgree c.shadow f g) (opened : BlocksAreOpen c) (position written : ℕ) (setup : Setup)
    (bytes : HasBytes setup) where
  -- the stack pointer rule keeps agreement
  rounds : (len : ℕ) (u v : Option Span) (e h : Effect) → EffectsAgree f g u v e h
      → EffectsAgree f g u v (rounded c len e) (rounded (swap c qs) len h)
  rounds len u v e h x =
      let rule = rules e.core x.registers x.agree (written_to f u e.made) (written_to g v h.made) x.memory
      (register c 2) (register (swap c qs) 2) (register-agrees c qs a 2) in
      record {
        registers = x.registers;
        core = ap (stack_ruled (register (swap c qs) 2)) x.core ∙ rule.core;
        agree = subst (λ rs. HeldAgree rs x.registers) (sym rule.registers) x.agree;
        raised = ap (λ r. fetch_errors c len ++ r) x.raised;
        output = x.output;
        memory = rule.memory;
      }

  -- a step that fetches half a word
  cut-fetched : (fault : Option ℕ) → EffectsAgree f g None None
      (let e = jump_fault c fault in
      record { core = e.core; raised = fetch_errors c 2 ++ e.raised; made = e.made; output = e.output })
      (let e = jump_fault (swap c qs) fault in
      record { core = e.core; raised = fetch_errors c 2 ++ e.raised; made = e.made; output = e.output })
  cut-fetched None = record { registers = qs; core = refl; agree = a; raised = refl; output = refl; memory = m }
  cut-fetched (Some n) = record { registers = qs; core = refl; agree = a; raised = refl; output = refl; memory = m }

  -- a step that fetches nothing
  none-fetched : EffectsAgree f g None None (unfetched c) (unfetched (swap c qs))
  unfolding unfetched
  none-fetched = go (is_running c.status) (is_aligned c.isa c.pc) (fetch_fault c)
    where
      go : (b d : Bool) (o : Option ℕ) → EffectsAgree f g None None
          (cond b (cond d (jump_fault c o) (stops c Misaligned)) (quiet c))
          (cond b (cond d (jump_fault (swap c qs) o) (stops (swap c qs) Misaligned)) (quiet (swap c qs)))
      go true true None = record { registers = qs; core = refl; agree = a; raised = refl; output = refl; memory = m }
      go true true (Some n) = record
          { registers = qs; core = refl; agree = a; raised = refl; output = refl; memory = m }
      go true false o = record { registers = qs; core = refl; agree = a; raised = refl; output = refl; memory = m }
      go false d o = record { registers = qs; core = refl; agree = a; raised = refl; output = refl; memory = m }

  -- the effect of a step, by what it does
  abbrev action-leaves : Core → Action → (ℕ → ℕ) → Effect
  action-leaves d action h =
      let terms = action_terms d action position written setup in
      outcome d terms action (given_at position terms.intake.count setup) (taken_from h (plan d terms action).reads)

  abbrev ActionsAgree : Action → Type 0
  ActionsAgree action =
      BothAgree f g (is_heap_action c action) (is_heap_action (swap c qs) action)
      (action_terms c action position written setup)
      (action_terms (swap c qs) action position written setup)
      (plan c (action_terms c action position written setup) action).writes
      (plan (swap c qs) (action_terms (swap c qs) action position written setup) action).writes
      (action-leaves c action f)
      (action-leaves (swap c qs) action g)

  pub actions-agree : (action : Action) → NoUse (action-leaves c action f).raised → ActionsAgree action
  actions-agree (Takes code) none =
      let len = len_of code in
      let r = row-agrees c qs a f g m opened position written setup bytes (next_of c len)
      (mod_below (c.pc + len) (2 ^ 32) (omega arith)) (row_of_code code) (code-small code)
      (right-none (fetch_errors c len) _ none) in
      record { heap = r.heap; terms = r.terms; effects = rounds len _ _ _ _ r.effects }
  actions-agree Cut none = record { heap = refl; terms = refl; effects = cut-fetched (word_fault c) }
  actions-agree (CallsByName function) none =
      let one = named-first (returns c) c function _ _ _ none in
      let same : returns c ≡ returns (swap c qs) = ap (is_aligned c.isa) (same-return c qs a one) in
      subst (λ (b : Bool). BothAgree f g (returns c) b (terms_of (returns c) None position written setup)
      (terms_of b None position written setup)
      (named_uses_by (returns c) function c (terms_of (returns c) None position written setup).redzone).writes
      (named_uses_by b function (swap c qs) (terms_of b None position written setup).redzone).writes
      (named_by (returns c) function c (terms_of (returns c) None position written setup).redzone
      (terms_of (returns c) None position written setup).volume
      (taken_from f (named_uses_by (returns c) function c
      (terms_of (returns c) None position written setup).redzone).reads))
      (named_by b function (swap c qs) (terms_of b None position written setup).redzone
      (terms_of b None position written setup).volume
      (taken_from g (named_uses_by b function (swap c qs)
      (terms_of b None position written setup).redzone).reads))) same
      (record {
        heap = refl;
        terms = refl;
        effects = named-calls c qs a f g m opened function _ _ (returns c) none;
      })
  actions-agree Halts none = record { heap = refl; terms = refl; effects = none-fetched }

  undefined-none : (len : ℕ) (es : List Event) → NoUse (fetch_errors c len ++ es) → fetch_undef c len ≡ 0
  undefined-none len es none =
      Rattle.std.proofs.lemmas.Bool.eqb-true (fetch_undef c len) 0
      (no-event (fetch_undef c len == 0) (here c) Value refl (left-none (fetch_errors c len) es none))

  -- what is fetched is the same, since all of it that decides that is defined
  fetched-same : NoUse (action-leaves c (fetched c f) f).raised → fetched c f ≡ fetched (swap c qs) g
  unfolding fetched fetches
  fetched-same none = go (fetches c) (is_half c.isa (half_at c f)) (word_fault c) refl refl refl none
    where
      go : (may short : Bool) (fault : Option ℕ) → fetches c ≡ may → is_half c.isa (half_at c f) ≡ short
          → word_fault c ≡ fault
          → NoUse (action-leaves c (fetch_by may short (is_none fault) (half_at c f) (word_at c f)) f).raised
          → fetch_by may short (is_none fault) (half_at c f) (word_at c f)
          ≡ fetch_by may (is_half c.isa (half_at c g)) (is_none fault) (half_at c g) (word_at c g)
      go false short fault e k n none = refl
      go true true fault e k n none =
          let half = half-same c qs a f g m (two_there c e) (undefined-none 2 _ none) in
          ap (λ h. Takes (Half h)) half
          ∙ ap (λ b. fetch_by true b (is_none fault) (half_at c g) (word_at c g))
          (sym (ap (is_half c.isa) (sym half) ∙ k))
      go true false None e k n none =
          let word = word-same c qs a f g m n (undefined-none 4 _ none) in
          ap (λ h. Takes (Word h)) word
          ∙ ap (λ b. fetch_by true b true (half_at c g) (word_at c g))
          (sym (half-by-word c.isa f g c.pc word ∙ k))
      go true false (Some x) e k n none =
          let half = half-same c qs a f g m (two_there c e) (undefined-none 2 _ none) in
          ap (λ b. fetch_by true b false (half_at c g) (word_at c g))
          (sym (ap (is_half c.isa) (sym half) ∙ k))

  -- both steps do the same
  pub action-same : NoUse (action-leaves c (action_at c f setup.hooks) f).raised
      → action_at c f setup.hooks ≡ action_at (swap c qs) g setup.hooks
  unfolding called_here
  action-same none = go (called_here c setup.hooks) none
    where
      go : (function : Option Hook) → NoUse (action-leaves c (action_by function (fetched c f)) f).raised
          → action_by function (fetched c f) ≡ action_by function (fetched (swap c qs) g)
      go (Some function) none = refl
      go None none = fetched-same none

-- the state after a step, by what it does
abbrev after : State → Setup → Action → State
after s setup action =
    let terms = action_terms s.core action s.position (length s.output) setup in
    let uses = plan s.core terms action in
    let effect = outcome s.core terms action (given_at s.position terms.intake.count setup)
    (taken_from s.bytes uses.reads) in
    record {
      bytes = written_to s.bytes uses.writes effect.made;
      core = stepped s.core effect.core;
      position = s.position + terms.intake.count;
      end_seen = seen_also s.end_seen terms.intake.ends;
      output = s.output ++ effect.output;
      heap_calls = counted s.heap_calls (is_heap_action s.core action);
      events = s.events ++ effect.raised;
    }

exec-is : (s : State) (setup : Setup) → exec s setup ≡ after s setup (action_at s.core s.bytes setup.hooks)
unfolding exec intake_at uses_at effect_at outcome_at
exec-is s setup = refl

module _ (setup : Setup) (s : State) (qs : Held) (g : ℕ → ℕ) (bytes : HasBytes setup)
    (opened : BlocksAreOpen s.core)
    (a : HeldAgree (held-of s.core) qs) (m : MemoriesAgree s.core.shadow s.bytes g) where
  -- the state with the other registers and bytes
  abbrev other : State
  other = record s { bytes = g; core = swap s.core qs }

  agree-after : (action : Action) → NoUse (after s setup action).events
      → StatesAgree (after s setup action) (after other setup action)
  agree-after action none =
      let d = actions-agree s.core qs a s.bytes g m opened s.position (length s.output) setup bytes action
      (right-none s.events _ none) in
      let x = d.effects in
      record {
        memory = x.memory;
        registers = subst (λ (k : Core). RegistersAgree
            (after s setup action).core.registers k.registers) (sym x.core) x.agree.registers;
        shadow = ap (λ (k : Core). k.shadow) (sym x.core);
        pc = ap (λ (k : Core). k.pc) (sym x.core);
        status = ap (λ (k : Core). k.status) (sym x.core);
        frames = ap (λ (k : Core). k.frames) (sym x.core);
        blocks = ap (λ (k : Core). k.blocks) (sym x.core);
        isa = ap (λ (k : Core). k.isa) (sym x.core);
        stack = ap (λ (k : Core). k.stack) (sym x.core);
        limits = ap (λ (k : Core). k.limits) (sym x.core);
        reserved = ap (λ (k : Core). k.reserved) (sym x.core);
        controls = subst (λ (k : Core). ControlsAgree
            (after s setup action).core.controls k.controls) (sym x.core) x.agree.controls;
        steps = ap (λ (k : Core). (stepped s.core k).steps) (sym x.core);
        position = ap (λ (t : Terms). s.position + t.intake.count) d.terms;
        end_seen = ap (λ (t : Terms). seen_also s.end_seen t.intake.ends) d.terms;
        output = ap (λ o. s.output ++ o) x.output;
        heap_calls = ap (counted s.heap_calls) d.heap;
        events = ap (λ es. s.events ++ es) x.raised;
      }

  steps : NoUse (exec s setup).events → StatesAgree (exec s setup) (exec other setup)
  steps none =
      let none' = subst (λ (t : State). NoUse t.events) (exec-is s setup) none in
      let same = action-same s.core qs a s.bytes g m opened s.position (length s.output) setup bytes
      (right-none s.events _ none') in
      subst₂ StatesAgree (sym (exec-is s setup))
      (ap (after other setup) same ∙ sym (exec-is other setup))
      (agree-after (action_at s.core s.bytes setup.hooks) none')

-- the law of a step under one setup
abbrev pub StepAgrees : Setup → Type 0
StepAgrees setup =
    (s t : State) → BlocksAreOpen s.core → StatesAgree s t → NoUse (exec s setup).events
    → StatesAgree (exec s setup) (exec t setup)

pub step-agrees : (setup : Setup) → HasBytes setup → StepAgrees setup
step-agrees setup bytes s t opened d none =
    let same : record s { bytes = t.bytes; core = swap s.core (held-of t.core) } ≡ t =
    λ i. record {
      bytes = t.bytes;
      core = record {
        shadow = d.shadow i;
        registers = t.core.registers;
        pc = d.pc i;
        status = d.status i;
        frames = d.frames i;
        blocks = d.blocks i;
        isa = d.isa i;
        stack = d.stack i;
        limits = d.limits i;
        reserved = d.reserved i;
        controls = t.core.controls;
        steps = d.steps i;
      };
      position = d.position i;
      end_seen = d.end_seen i;
      output = d.output i;
      heap_calls = d.heap_calls i;
      events = d.events i;
    } in
    subst (λ (x : State). StatesAgree (exec s setup) (exec x setup)) same
    (steps setup s (held-of t.core) t.bytes bytes opened
    (record { registers = d.registers; controls = d.controls }) d.memory none)
