-- The steps of two states, one of which stands for the other, touch the same addresses.
use Rattle.std.proofs.Common.{◌≡◌, ℕ, ap, ◌∙◌, subst, length}
use Rattle.guest_machine.specs.State.{Core, State}
use Rattle.guest_machine.specs.Exec.{Action, Terms, Uses, exec, action_at, action_terms, plan, given_at, taken_from}
use Rattle.guest_machine.specs.Exec.{uses_at, terms_of, fetch_span, touched_of, touched_at}
use Rattle.guest_machine.specs.declared.setup.Setup.{Setup}
use Rattle.guest_machine.specs.declared.setup.Touched.{Touched as Ranges}
use Rattle.clean_reports.specs.Uses.{NoUse}
use Rattle.any_runs.specs.Sharper.{StatesSharper}
use Rattle.any_runs.specs.Stands.{Stands}
use Rattle.clean_reports.specs.Agreement.{MemoriesAgree, StatesAgree}
use Rattle.clean_reports.specs.Heap.{BlocksAreOpen}
use Rattle.clean_reports.specs.Disturbed.{HasBytes}
use Rattle.any_runs.proofs.Tests.{right-none}
use Rattle.clean_reports.proofs.Registers as Clean
use Rattle.clean_reports.proofs.Steps.{action-same as clean-action-same, actions-agree}
use Rattle.any_runs.proofs.Touches.{plan-same}
use Rattle.any_runs.proofs.Held as Ours
use Rattle.any_runs.proofs.Steps.{action-same, action-sharper, exec-is}
use Rattle.any_runs.proofs.Standing.{between, agrees, sharpens}

-- the ranges, by what a step does and uses
abbrev ranges-by : ℕ → Core → Action → Uses → Ranges
ranges-by pc core action uses = record { fetch = fetch_span core action; reads = uses.reads; writes = uses.writes }

module _ (setup : Setup) (s : State) (qs : Clean.Held) (g : ℕ → ℕ) (bytes : HasBytes setup)
    (opened : BlocksAreOpen s.core) (a : Clean.HeldAgree (Clean.held-of s.core) qs)
    (m : MemoriesAgree s.core.shadow s.bytes g) where
  abbrev d : Core
  d = Clean.swap s.core qs

  abbrev n : ℕ
  n = length s.output

  touched-other : NoUse (exec s setup).events
      → touched_of s setup ≡ touched_of (record s { bytes = g; core = d }) setup
  unfolding touched_at uses_at
  touched-other none =
      let action = action_at s.core s.bytes setup.hooks in
      let terms = action_terms s.core action s.position n setup in
      let quiet = right-none s.events _ (subst (λ (x : State). NoUse x.events) (exec-is s setup) none) in
      let same = clean-action-same s.core qs a s.bytes g m opened s.position n setup bytes quiet in
      let both = actions-agree s.core qs a s.bytes g m opened s.position n setup bytes action quiet in
      let uses = plan-same s.core qs a action terms (given_at s.position terms.intake.count setup)
      (taken_from s.bytes (plan s.core terms action).reads) quiet ∙ ap (λ (t : Terms). plan d t action) both.terms in
      (λ i. ranges-by 0 s.core action (uses i))
      ∙ ap (λ (x : Action). ranges-by 0 d x (plan d (action_terms d x s.position n setup) x)) same

pub touched-agrees : (setup : Setup) → HasBytes setup → (s t : State) → BlocksAreOpen s.core → StatesAgree s t
    → NoUse (exec s setup).events → touched_of s setup ≡ touched_of t setup
touched-agrees setup bytes s t opened x none =
    let same : record s { bytes = t.bytes; core = Clean.swap s.core (Clean.held-of t.core) } ≡ t =
    λ i. record {
      bytes = t.bytes;
      core = record {
        shadow = x.shadow i;
        registers = t.core.registers;
        pc = x.pc i;
        status = x.status i;
        frames = x.frames i;
        blocks = x.blocks i;
        isa = x.isa i;
        stack = x.stack i;
        limits = x.limits i;
        reserved = x.reserved i;
        controls = t.core.controls;
        steps = x.steps i;
      };
      position = x.position i;
      end_seen = x.end_seen i;
      output = x.output i;
      heap_calls = x.heap_calls i;
      events = x.events i;
    } in
    touched-other setup s (Clean.held-of t.core) t.bytes bytes opened
    (record { registers = x.registers; controls = x.controls }) x.memory none
    ∙ ap (λ (u : State). touched_of u setup) same

module _ (setup : Setup) (s : State) (qs : Ours.Held) (a : Ours.HeldSharper (Ours.held-of s.core) qs) where
  abbrev k : Core
  k = Ours.swap s.core qs

  abbrev l : ℕ
  l = length s.output

  touched-less : touched_of s setup ≡ touched_of (record s { core = k }) setup
  unfolding touched_at uses_at
  touched-less =
      let action = action_at s.core s.bytes setup.hooks in
      let p = action-sharper s.core qs a action in
      let terms = action_terms s.core action s.position l setup in
      let t : terms ≡ action_terms k action s.position l setup =
      λ i. terms_of (p.heap i) (p.asks i) s.position l setup in
      let uses = p.uses terms ∙ ap (λ (x : Terms). plan k x action) t in
      (λ i. ranges-by 0 s.core action (uses i))
      ∙ ap (λ (x : Action). ranges-by 0 k x (plan k (action_terms k x s.position l setup) x))
      (action-same s.core qs a s.bytes setup.hooks)

pub touched-sharper : (setup : Setup) (s t : State) → StatesSharper s t → touched_of s setup ≡ touched_of t setup
touched-sharper setup s t x =
    let same : record s { core = Ours.swap s.core (Ours.held-of t.core) } ≡ t =
    λ i. record {
      bytes = x.bytes i;
      core = record {
        shadow = t.core.shadow;
        registers = t.core.registers;
        pc = x.pc i;
        status = x.status i;
        frames = x.frames i;
        blocks = x.blocks i;
        isa = x.isa i;
        stack = x.stack i;
        limits = x.limits i;
        reserved = x.reserved i;
        controls = t.core.controls;
        steps = x.steps i;
      };
      position = x.position i;
      end_seen = x.end_seen i;
      output = x.output i;
      heap_calls = x.heap_calls i;
      events = x.events i;
    } in
    touched-less setup s (Ours.held-of t.core)
    (record { registers = x.registers; controls = x.controls; shadow = x.shadow })
    ∙ ap (λ (u : State). touched_of u setup) same

pub touched-stands : (setup : Setup) → HasBytes setup → (s t : State) → Stands s t → BlocksAreOpen s.core
    → NoUse (exec s setup).events → touched_of s setup ≡ touched_of t setup
touched-stands setup bytes s t d opened none =
    touched-agrees setup bytes s (between s t) opened (agrees s t d) none
    ∙ touched-sharper setup (between s t) t (sharpens s t d)
