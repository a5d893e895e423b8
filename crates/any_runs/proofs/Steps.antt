-- From states with fewer undefined bits, a whole step leads to such states.
use Rattle.std.proofs.Common.{◌≡◌, ℕ, ◌+◌, ◌^◌, Bool, true, false, cond, refl, sym, ap, ◌∙◌, subst, subst₂, List, ◌++◌}
use Rattle.std.proofs.Common.{length, Option, Some, None, ◌==◌, ◌&&◌, ◌<◌, ◌*◌, ◌/◌, [], arith}
use Rattle.std.specs.Prelude.{is_none}
use Rattle.std.proofs.lemmas.Bool.{eqb-true}
use Rattle.shadow_memory.specs.Ranges.{little_word}
use Rattle.error_events.specs.declared.event.Event.{Event}
use Rattle.error_events.specs.declared.kind.Kind.TheVariants.{Value}
use Rattle.guest_elf.specs.declared.hook.Hook.{Hook}
use Rattle.guest_elf.specs.Profiles.{is_aligned, is_half, unit}
use Rattle.instructions.specs.Codes.{len_of, row_of_code}
use Rattle.run_values.specs.declared.status.Stop.TheVariants.{Misaligned}
use Rattle.run_values.specs.declared.status.Stop.TheVariants.{Jump as JumpStop}
use Rattle.guest_machine.specs.State.{Core, State}
use Rattle.guest_machine.specs.Registers.{register}
use Rattle.guest_machine.specs.Errors.{here, event_unless, fetch_undef, fetch_errors}
use Rattle.guest_machine.specs.Effects.{Effect, next_of, quiet, stopped, stops}
use Rattle.guest_machine.specs.StackPointer.{stack_ruled}
use Rattle.guest_machine.specs.NamedCalls.{returns, named_by}
use Rattle.guest_machine.specs.Exec.{Action, Takes, Cut, CallsByName, Halts, Terms, action_terms, plan, outcome}
use Rattle.guest_machine.specs.Exec.{rounded, terms_of, action_asks, named_uses_by, work_uses}
use Rattle.guest_machine.specs.Exec.{is_heap_action, given_at, taken_from, written_to, unfetched}
use Rattle.guest_machine.specs.Exec.{jump_fault, is_running, fetch_fault, fetches, fetched, called_here, cut}
use Rattle.guest_machine.specs.Exec.{action_by, fetch_by, half_at, word_at, word_fault, action_at, exec, intake_at}
use Rattle.guest_machine.specs.Exec.{uses_at}
use Rattle.guest_machine.specs.Exec.{effect_at, outcome_at, seen_also, counted, stepped}
use Rattle.guest_machine.specs.declared.setup.Setup.{Setup}
use Rattle.any_runs.specs.Sharper.{StatesSharper, HasStackPointer, ShadowsSharper, RegistersSharper, ControlsSharper}
use Rattle.any_runs.specs.Sharper.{StepsSharper}
use Rattle.clean_reports.specs.Uses.{NoUse}
use Rattle.any_runs.proofs.Mono.{none-within}
use Rattle.any_runs.proofs.Memory.{bad-same, taken-within, window-lt8}
use Rattle.any_runs.proofs.Held.{Held, HeldSharper, held-of, swap, same-argument, same-bits}
use Rattle.any_runs.proofs.Tests.{IsKnown, left-none, right-none, no-event}
use Rattle.any_runs.proofs.Effects.{EffectsSharper, alike}
use Rattle.any_runs.proofs.HeapCalls.{named-calls}
use Rattle.any_runs.proofs.Stack.{rules, ruled-known}
use Rattle.any_runs.proofs.Rows.{row-sharper}

module _ (c : Core) (qs : Held) (a : HeldSharper (held-of c) qs) where
  abbrev d : Core
  d = swap c qs

  -- the errors of a fetch that raises no use --

  undefined-none : (len : ℕ) → NoUse (fetch_errors c len) → fetch_undef c len ≡ 0
  undefined-none len none =
      eqb-true (fetch_undef c len) 0
      (no-event (fetch_undef c len == 0) (here c) Value refl none)

  little-lt : (len : ℕ) → fetch_undef d len < 2 ^ 32
  unfolding little_word
  little-lt len =
      let small = window-lt8 qs.shadow (λ k. (a.shadow k).other) c.pc len in
      omega (arith, small 0, small 1, small 2, small 3)

  pub fetch-same : (len : ℕ) → NoUse (fetch_errors c len) → fetch_errors c len ≡ fetch_errors d len
  unfolding event_unless
  fetch-same len none =
      let one = undefined-none len none in
      let two = none-within 32 (fetch_undef c len) (fetch_undef d len) (little-lt len)
      (taken-within c.shadow qs.shadow a.shadow c.pc len) one in
      (λ i. event_unless (one i == 0) (here c) Value) ∙ (λ i. event_unless (sym two i == 0) (here c) Value)

  -- the stack pointer rule --

  rounds : (len : ℕ) (e h : Effect) → NoUse (fetch_errors c len) → IsKnown c 2 → IsKnown e.core 2 → EffectsSharper e h
      → EffectsSharper (rounded c len e) (rounded d len h)
  rounds len e h none before after x =
      let rule = rules e.core x.held x.agree (register c 2) (register d 2) (same-bits c qs a 2 before) after in
      record {
        held = rule.held;
        core = ap (stack_ruled (register d 2)) x.core ∙ rule.core;
        agree = rule.agree;
        raised = λ i. fetch-same len none i ++ x.raised i;
        made = x.made;
        output = x.output;
      }

  -- a step that fetches half a word, or nothing --

  fault-same : (o : Option ℕ) → EffectsSharper (jump_fault c o) (jump_fault d o)
  fault-same None = alike c qs a 0 (λ k. k) [] refl refl
  fault-same (Some n) = alike c qs a 0 (λ k. stopped k JumpStop) _ refl refl

  cut-sharper : NoUse (cut c).raised → EffectsSharper (cut c) (cut d)
  cut-sharper none =
      let x = fault-same (word_fault c) in
      let fault : word_fault c ≡ word_fault d = bad-same c.shadow qs.shadow a.shadow c.pc 4 in
      let by : Core → List Event → Option ℕ → Effect = λ k es o.
      (let e = jump_fault k o in record { core = e.core; raised = es ++ e.raised; made = e.made; output = e.output }) in
      subst (λ (h : Effect). EffectsSharper (cut c) h)
      (λ i. by d (fetch-same 2 (left-none _ _ none) i) (fault i))
      (record {
        held = x.held;
        core = x.core;
        agree = x.agree;
        raised = ap (λ r. fetch_errors c 2 ++ r) x.raised;
        made = x.made;
        output = x.output;
      })

  none-fetched : EffectsSharper (unfetched c) (unfetched d)
  unfolding unfetched
  none-fetched =
      subst (λ (h : Effect). EffectsSharper (unfetched c) h)
      (λ i. cond (is_running c.status) (cond (is_aligned c.isa c.pc) (jump_fault d
      (bad-same c.shadow qs.shadow a.shadow c.pc (unit c.isa) i)) (stops d Misaligned)) (quiet d))
      (go (is_running c.status) (is_aligned c.isa c.pc))
    where
      go : (b t : Bool) → EffectsSharper
          (cond b (cond t (jump_fault c (fetch_fault c)) (stops c Misaligned)) (quiet c))
          (cond b (cond t (jump_fault d (fetch_fault c)) (stops d Misaligned)) (quiet d))
      go true true = fault-same (fetch_fault c)
      go true false = alike c qs a 0 (λ k. stopped k Misaligned) [] refl refl
      go false t = alike c qs a 0 (λ k. k) [] refl refl

  -- what a step does is the same
  pub action-same : (f : ℕ → ℕ) (hooks : List (ℕ × Hook)) → action_at c f hooks ≡ action_at d f hooks
  unfolding called_here fetched fetches
  action-same f hooks =
      let fetch = bad-same c.shadow qs.shadow a.shadow c.pc (unit c.isa) in
      let whole = bad-same c.shadow qs.shadow a.shadow c.pc 4 in
      λ i. action_by (called_here c hooks)
      (fetch_by (is_running c.status && (is_aligned c.isa c.pc && is_none (fetch i))) (is_half c.isa (half_at c f))
      (is_none (whole i)) (half_at c f) (word_at c f))

  -- so is what it is given and uses, and its effect has fewer undefined bits
  pub record ActionSharper (action : Action) : Type 0 where
    pub heap : is_heap_action c action ≡ is_heap_action d action
    pub asks : action_asks c action ≡ action_asks d action
    pub uses : (terms : Terms) → plan c terms action ≡ plan d terms action
    pub effect : (terms : Terms) (given : List ℕ) (taken : ℕ → ℕ) → IsKnown c 2
        → IsKnown (outcome c terms action given taken).core 2 → NoUse (outcome c terms action given taken).raised
        → EffectsSharper (outcome c terms action given taken) (outcome d terms action given taken)

  returns-same : returns c ≡ returns d
  returns-same = ap (λ n. is_aligned c.isa (n / 2 * 2)) (same-argument c qs a 1)

  named-uses : (b : Bool) (function : Hook) (redzone : ℕ)
      → named_uses_by b function c redzone ≡ named_uses_by b function d redzone
  unfolding named_uses_by
  named-uses true function redzone =
      λ i. work_uses function c.blocks (same-argument c qs a 10 i) (same-argument c qs a 11 i) redzone
  named-uses false function redzone = refl

  pub action-sharper : (action : Action) → ActionSharper action
  action-sharper (Takes code) =
      let len = len_of code in
      let r = row-sharper c qs a (next_of c len) (row_of_code code) in
      record {
        heap = r.heap;
        asks = r.asks;
        uses = r.uses;
        effect = λ terms given taken before after none.
            rounds len _ _ (left-none _ _ none) before (ruled-known (register c 2) _ after)
            (r.effect terms given taken (right-none (fetch_errors c len) _ none));
      }
  action-sharper Cut = record {
    heap = refl;
    asks = refl;
    uses = λ terms. refl;
    effect = λ terms given taken before after none. cut-sharper none;
  }
  action-sharper (CallsByName function) = record {
    heap = returns-same;
    asks = refl;
    uses = λ terms.
        named-uses (returns c) function terms.redzone
        ∙ ap (λ b. named_uses_by b function d terms.redzone) returns-same;
    effect = λ terms given taken before after none.
        subst (λ b. EffectsSharper (named_by (returns c) function c terms.redzone terms.volume taken)
        (named_by b function d terms.redzone terms.volume taken)) returns-same
        (named-calls c qs a function terms.redzone terms.volume taken (returns c) none);
  }
  action-sharper Halts = record {
    heap = refl;
    asks = refl;
    uses = λ terms. refl;
    effect = λ terms given taken before after none. none-fetched;
  }

-- the state after a step, by what it does
abbrev pub after : State → Setup → Action → State
after s setup action =
    let terms = action_terms s.core action s.position (length s.output) setup in
    let uses = plan s.core terms action in
    let effect = outcome s.core terms action (given_at s.position terms.intake.count setup)
    (taken_from s.bytes uses.reads) in
    record {
      bytes = written_to s.bytes uses.writes effect.made;
      core = stepped s.core effect.core;
      position = s.position + terms.intake.count;
      end_seen = seen_also s.end_seen terms.intake.ends;
      output = s.output ++ effect.output;
      heap_calls = counted s.heap_calls (is_heap_action s.core action);
      events = s.events ++ effect.raised;
    }

pub exec-is : (s : State) (setup : Setup) → exec s setup ≡ after s setup (action_at s.core s.bytes setup.hooks)
unfolding exec intake_at uses_at effect_at outcome_at
exec-is s setup = refl

module _ (setup : Setup) (s : State) (qs : Held) (a : HeldSharper (held-of s.core) qs) where
  -- the state with other undefined bits
  abbrev other : State
  other = record s { core = swap s.core qs }

  sharper-after : (action : Action) → HasStackPointer s → HasStackPointer (after s setup action)
      → NoUse (after s setup action).events → StatesSharper (after s setup action) (after other setup action)
  unfolding register
  sharper-after action before later none =
      let p = action-sharper s.core qs a action in
      let d = swap s.core qs in
      let terms = action_terms s.core action s.position (length s.output) setup in
      let t : terms ≡ action_terms d action s.position (length s.output) setup =
      λ i. terms_of (p.heap i) (p.asks i) s.position (length s.output) setup in
      let uses : plan s.core terms action ≡ plan d (action_terms d action s.position (length s.output) setup) action =
      p.uses terms ∙ ap (λ (x : Terms). plan d x action) t in
      let given = given_at s.position terms.intake.count setup in
      let taken = taken_from s.bytes (plan s.core terms action).reads in
      let x : EffectsSharper (outcome s.core terms action given taken)
      (outcome d (action_terms d action s.position (length s.output) setup) action
      (given_at s.position (action_terms d action s.position (length s.output) setup).intake.count setup)
      (taken_from s.bytes (plan d (action_terms d action s.position (length s.output) setup) action).reads)) =
      subst (λ (h : Effect). EffectsSharper (outcome s.core terms action given taken) h)
      (λ i. outcome d (t i) action (given_at s.position (t i).intake.count setup) (taken_from s.bytes (uses i).reads))
      (p.effect terms given taken before later (right-none s.events _ none)) in
      record {
        bytes = λ i. written_to s.bytes (uses i).writes (x.made i);
        shadow = subst (λ (k : Core). ShadowsSharper (after s setup action).core.shadow k.shadow) (sym x.core)
            x.agree.shadow;
        registers = subst (λ (k : Core). RegistersSharper (after s setup action).core.registers k.registers)
            (sym x.core) x.agree.registers;
        controls = subst (λ (k : Core). ControlsSharper (after s setup action).core.controls k.controls) (sym x.core)
            x.agree.controls;
        pc = ap (λ (k : Core). k.pc) (sym x.core);
        status = ap (λ (k : Core). k.status) (sym x.core);
        frames = ap (λ (k : Core). k.frames) (sym x.core);
        blocks = ap (λ (k : Core). k.blocks) (sym x.core);
        isa = ap (λ (k : Core). k.isa) (sym x.core);
        stack = ap (λ (k : Core). k.stack) (sym x.core);
        limits = ap (λ (k : Core). k.limits) (sym x.core);
        reserved = ap (λ (k : Core). k.reserved) (sym x.core);
        steps = ap (λ (k : Core). (stepped s.core k).steps) (sym x.core);
        position = ap (λ (k : Terms). s.position + k.intake.count) t;
        end_seen = ap (λ (k : Terms). seen_also s.end_seen k.intake.ends) t;
        output = ap (λ o. s.output ++ o) x.output;
        heap_calls = ap (counted s.heap_calls) p.heap;
        events = ap (λ es. s.events ++ es) x.raised;
      }

  steps : HasStackPointer s → HasStackPointer (exec s setup) → NoUse (exec s setup).events
      → StatesSharper (exec s setup) (exec other setup)
  steps before later none =
      let is = exec-is s setup in
      let same = action-same s.core qs a s.bytes setup.hooks in
      subst₂ StatesSharper (sym is) (ap (after other setup) same ∙ sym (exec-is other setup))
      (sharper-after (action_at s.core s.bytes setup.hooks) before (subst HasStackPointer is later)
      (subst (λ (x : State). NoUse x.events) is none))

pub steps-sharper : StepsSharper
steps-sharper setup s t x before later none =
    let same : record s { core = swap s.core (held-of t.core) } ≡ t =
    λ i. record {
      bytes = x.bytes i;
      core = record {
        shadow = t.core.shadow;
        registers = t.core.registers;
        pc = x.pc i;
        status = x.status i;
        frames = x.frames i;
        blocks = x.blocks i;
        isa = x.isa i;
        stack = x.stack i;
        limits = x.limits i;
        reserved = x.reserved i;
        controls = t.core.controls;
        steps = x.steps i;
      };
      position = x.position i;
      end_seen = x.end_seen i;
      output = x.output i;
      heap_calls = x.heap_calls i;
      events = x.events i;
    } in
    subst (λ (u : State). StatesSharper (exec s setup) (exec u setup)) same
    (steps setup s (held-of t.core)
    (record { registers = x.registers; controls = x.controls; shadow = x.shadow }) before later none)
