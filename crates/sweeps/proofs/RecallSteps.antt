-- What is known of outcomes without a run.
use Rattle.std.proofs.Common.{◌≡◌, ℕ, ◌+◌, ◌%◌, ◌^◌, ◌<◌, ◌==◌, ◌&&◌, not}
use Rattle.std.proofs.Common.{Bool, true, false, cond, List, [], Option, Some, None}
use Rattle.std.proofs.Common.{refl, ap, sym, subst, arith}
use Rattle.std.specs.Prelude.{IfSome}
use Rattle.guest_machine.specs.Exec.{is_running}
use Rattle.guest_machine.specs.Run.{after_marks, marks_at, post, pre}
use Rattle.guest_machine.specs.State.{State}
use Rattle.guest_machine.specs.declared.setup.Setup.{Setup}
use Rattle.run_values.specs.declared.alteration.Alteration.{Alteration}
use Rattle.pruning.specs.Laws.{HasBytes, IsOf, RunsKeep, RunsKeepWords, RunsOverwrite, also}
use Rattle.pruning.specs.Words.{passing_word, touches_word}
use Rattle.pruning.specs.Passing.{passing}
use Rattle.pruning.specs.declared.passing.Passing.{Passing}
use Rattle.pruning.specs.declared.passing.Passing.TheVariants.{Keeps, Looks, Overwrites}
use Rattle.replay_report.specs.Outlines.{IsOutline}
use Rattle.scenario.specs.Scenario.{Scenario, IsOutlineOf, chosen_state, first_state, run_of}
use Rattle.sweep_plans.specs.Changes.{act_of}
use Rattle.sweep_plans.specs.declared.change.Change.TheVariants.{Once}
use Rattle.sweep_plans.specs.declared.change.Glitch.{Glitch}
use Rattle.sweep_plans.specs.declared.change.Glitch.TheVariants.{Skip, Flip, FlipPc, Set, Turn}
use Rattle.sweeps.specs.Landmarks.{AreEnds}
use Rattle.sweeps.specs.Outcomes.{IsOutcome}
use Rattle.guest_machine.specs.Shows.{Shows}
use Rattle.sweep_plans.specs.Changes.{IsRight}
use Rattle.sweep_plans.specs.declared.standing.Standing.{Standing}
use Rattle.sweep_plans.specs.declared.standing.Standing.TheVariants as At
use Rattle.sweeps.specs.Recall.{AreKnown, IsGone, IsKept, Passes, Recalls, RegisterIs}
use Rattle.sweeps.specs.Sites.{Continues, IsBefore}
use Rattle.sweeps.specs.Standing.{IsAt, IsBelow, Stands, state_before}
use Rattle.sweeps.specs.declared.endings.Ends.{Ends}
use Rattle.sweeps.specs.declared.recall.Recall.{Recall}
use Rattle.sweeps.proofs.LoneSteps.{none-foreseen}
use Rattle.sweeps.proofs.MemorySteps.{fork-there}
use Rattle.sweeps.specs.declared.sites.Site.{Site}

-- without marks, the state after those of a step is the state before the step
bare : (start : State) (setup : Setup) (marks : List Alteration) (k : ℕ) → marks ≡ []
    → pre start setup marks k ≡ post start setup marks k
unfolding post pre after_marks
bare start setup marks k e = ap (λ ms. after_marks k ms (pre start setup marks k)) (sym e)

module _ (sc : Scenario) (step : ℕ) (unmarked : sc.marks ≡ []) (below : step < sc.step) where
  abbrev s-before : State
  s-before = state_before sc step

  abbrev s-after : State
  s-after = post (first_state sc) sc.setup sc.marks step

  same-state : s-before ≡ s-after
  same-state = bare (first_state sc) sc.setup sc.marks step unmarked

  abbrev end-by : ℕ → Glitch → State
  end-by k glitch = post (first_state sc) sc.setup (also sc.marks k (act_of glitch)) sc.step

  kept-register : RunsKeep → is_running (state_before sc (step + 1)).core.status ≡ true → (r : ℕ) (glitch : Glitch)
      → IsOf (act_of glitch) r → RegisterIs s-before sc.setup r Keeps
      → end-by step glitch ≡ end-by (step + 1) glitch
  kept-register law runs r glitch of is =
      (law (first_state sc) sc.setup sc.marks step r (act_of glitch) is.0 of
      (subst (λ s. passing s sc.setup r ≡ Keeps) same-state is.1) runs (ap (marks_at (step + 1)) unmarked)).0
      sc.step below

  gone-register : RunsOverwrite → (r : ℕ) (glitch : Glitch) → IsOf (act_of glitch) r
      → RegisterIs s-before sc.setup r Overwrites
      → end-by step glitch ≡ post (first_state sc) sc.setup sc.marks sc.step
  gone-register law r glitch of is =
      (law (first_state sc) sc.setup sc.marks step r (act_of glitch) is.0 of
      (subst (λ s. passing s sc.setup r ≡ Overwrites) same-state is.1) sc.step below).1

  -- a glitch of what the step keeps leads to the same end just before the next step
  kept-end : RunsKeep → RunsKeepWords → is_running (state_before sc (step + 1)).core.status ≡ true
      → (glitch : Glitch) → IsKept s-before sc.setup glitch → end-by step glitch ≡ end-by (step + 1) glitch
  kept-end registers words runs (Flip r mask) is = kept-register registers runs r (Flip r mask) refl is
  kept-end registers words runs (Set r value) is = kept-register registers runs r (Set r value) refl is
  kept-end registers words runs (Turn addr mask) (near, fits, is) =
      (words (first_state sc) sc.setup sc.marks step addr mask near (subst (λ s. HasBytes s addr) same-state fits)
      (subst (λ s. passing_word s sc.setup addr ≡ Keeps) same-state is) runs
      (ap (marks_at (step + 1)) unmarked)).0 sc.step below
  kept-end registers words runs Skip is = absurd is
  kept-end registers words runs (FlipPc mask) is = absurd is

  -- and one of what it overwrites, to the end of the unedited run
  gone-end : RunsOverwrite → (glitch : Glitch) → IsGone s-before sc.setup glitch
      → end-by step glitch ≡ post (first_state sc) sc.setup sc.marks sc.step
  gone-end law (Flip r mask) is = gone-register law r (Flip r mask) refl is
  gone-end law (Set r value) is = gone-register law r (Set r value) refl is
  gone-end law Skip is = absurd is
  gone-end law (FlipPc mask) is = absurd is
  gone-end law (Turn addr mask) is = absurd is

  module _ (with_output : Bool) (glitch : Glitch) (text : List ℕ) where
    pub kept-on : RunsKeep → RunsKeepWords → IsKept s-before sc.setup glitch
        → is_running (state_before sc (step + 1)).core.status ≡ true
        → IsOutcome with_output sc (Once step glitch) text → IsOutcome with_output sc (Once (step + 1) glitch) text
    unfolding IsOutcome IsOutlineOf chosen_state first_state
    kept-on registers words is runs =
        subst (λ s. IsOutline s sc.image sc.rules sc.options with_output text) (kept-end registers words runs glitch is)

    pub gone-on : RunsOverwrite → IsGone s-before sc.setup glitch → IsOutlineOf with_output sc text
        → IsOutcome with_output sc (Once step glitch) text
    unfolding IsOutcome IsOutlineOf chosen_state first_state
    gone-on law is =
        subst (λ s. IsOutline s sc.image sc.rules sc.options with_output text) (sym (gone-end law glitch is))

-- what is known of a register is known of a glitch of it
pub passes-flip : (s : State) (setup : Setup) (r mask : ℕ) (is : Passing)
    → ((Looks ≡ is → ⊥) → RegisterIs s setup r is) → Passes s setup (Flip r mask) is
passes-flip s setup r mask Looks h = tt
passes-flip s setup r mask Keeps h = h (λ e. cc)
passes-flip s setup r mask Overwrites h = h (λ e. cc)

pub passes-set : (s : State) (setup : Setup) (r value : ℕ) (is : Passing)
    → ((Looks ≡ is → ⊥) → RegisterIs s setup r is) → Passes s setup (Set r value) is
passes-set s setup r value Looks h = tt
passes-set s setup r value Keeps h = h (λ e. cc)
passes-set s setup r value Overwrites h = h (λ e. cc)

never-overwrites : (s : State) (setup : Setup) (addr : ℕ) → passing_word s setup addr ≡ Overwrites → ⊥
unfolding passing_word
never-overwrites s setup addr = go (addr % 4 == 0 && not (touches_word s setup addr))
  where
    go : (b : Bool) → cond b Keeps Looks ≡ Overwrites → ⊥
    go true e = cc
    go false e = cc

-- and what is known of a word, of a glitch of the word
pub passes-turn : (s : State) (setup : Setup) (addr mask : ℕ) (is : Passing) → addr < 2 ^ 32
    → is ≡ passing_word s setup addr → (is ≡ Keeps → HasBytes s addr) → Passes s setup (Turn addr mask) is
passes-turn s setup addr mask Looks near e fits = tt
passes-turn s setup addr mask Keeps near e fits = (near, fits refl, sym e)
passes-turn s setup addr mask Overwrites near e fits = never-overwrites s setup addr (sym e)

-- ---- a site before a step

-- a change there that is one glitch strikes this step
pub at-once : (sc : Scenario) (standing : Standing) (step at : ℕ) (glitch : Glitch)
    → (pc : ℕ) × (short : Bool) × (standing ≡ At.Step step pc short) → IsAt sc standing (Once at glitch)
    → (at ≡ step) × (IsAt sc standing (Once step glitch) × IsRight glitch)
at-once sc standing step at glitch (pc, short, is) h =
    let there = subst (λ st. IsAt sc st (Once at glitch)) is h in
    (there.0, (subst (λ st. IsAt sc st (Once step glitch)) (sym is) (refl, there.1), there.1))

-- a site at a step is just before it
pub before-there : (sc : Scenario) (step pc : ℕ) (short : Bool) (site : Site) → site.standing ≡ At.Step step pc short
    → sc.marks ≡ []
    → Stands sc site.standing → IsBelow sc.step site.standing → Continues sc site.standing site.fork
    → IsBefore sc step site
before-there sc step pc short site is unmarked stands under goes =
    let below : step < sc.step = subst (IsBelow sc.step) is under in
    let fork = goes (Once step Skip) (subst (λ st. IsAt sc st (Once step Skip)) (sym is) (refl, tt)) in record {
      unmarked = unmarked;
      below = below;
      standing = (pc, short, is);
      stands = stands;
      continues = goes;
      shows = subst (λ k. Shows site.fork.machine (state_before sc k))
          (fork-there step sc.step (run_of sc) site.fork below fork) fork.shows;
    }

-- its fork is there
pub fork-at : (sc : Scenario) (step : ℕ) (site : Site) → IsBefore sc step site → site.fork.step ≡ step
fork-at sc step site before =
    let standing = before.standing in
    fork-there step sc.step (run_of sc) site.fork before.below
    (before.continues (Once step Skip) (subst (λ st. IsAt sc st (Once step Skip)) (sym standing.2) (refl, tt)))

-- before the first place the outcome of the unedited run is recalled alone
pub begun-recall : (with_output : Bool) (sc : Scenario) (recall : Recall) → IsOutlineOf with_output sc recall.unedited
    → recall.here.items ≡ [] → recall.next.items ≡ [] → recall.lone.rows.items ≡ [] → recall.ends ≡ None
    → Recalls with_output sc recall
begun-recall with_output sc recall unedited here next lone ends = record {
  unedited = unedited;
  here = subst (AreKnown with_output sc recall.step) (sym here) (λ i d less. absurd (omega arith));
  next = λ runs. subst (AreKnown with_output sc (recall.step + 1)) (sym next) (λ i d less. absurd (omega arith));
  lone = none-foreseen with_output sc recall.lone lone;
  ends = subst (λ (found : Option Ends). IfSome found (AreEnds with_output sc)) (sym ends) tt;
}

-- what is so of a value that was found
pub of-found : {A : Type 0} (P : A → Type 0) (found : Option A) (x : A) → found ≡ Some x → IfSome found P → P x
of-found P found x is = subst (λ f. IfSome f P) is
