-- A fork of the run of a scenario, by what its setup and marks are equal to.
use Rattle.std.proofs.Common.{◌≡◌, ℕ, ◌+◌, ◌≤◌, List, Some, inl, inr, refl, ap, sym, ◌∙◌, arith}
use Rattle.std.proofs.lemmas.Bool.{cases_lt}
use Rattle.std.proofs.Math.Path.{transport}
use Rattle.guest_elf.specs.declared.image.Image.{Image}
use Rattle.guest_machine.specs.Run.{post}
use Rattle.guest_machine.specs.Shows.{Shows}
use Rattle.guest_machine.specs.State.{State}
use Rattle.guest_machine.specs.declared.machine.Machine.{Machine}
use Rattle.guest_machine.specs.declared.setup.Setup.{Setup}
use Rattle.run_values.specs.declared.alteration.Alteration.{Alteration}
use Rattle.checkpoints.specs.Edits.{IsRightForRun}
use Rattle.checkpoints.specs.Effects.{LeadsTo, Run}
use Rattle.checkpoints.specs.Forks.{IsForkFor, ShowsEdited}
use Rattle.checkpoints.specs.Trails.{IsRightFor, LoadsAs, loaded_of}
use Rattle.checkpoints.specs.Words.{is_among}
use Rattle.checkpoints.specs.declared.effect.Effect.{Effect}
use Rattle.checkpoints.specs.declared.effect.Effect.TheVariants.{After}
use Rattle.checkpoints.specs.declared.forks.Fork.{Fork}
use Rattle.checkpoints.specs.declared.trail.Trail.{Trail}
use Rattle.scenario.specs.Scenario.{Scenario, chosen_state, first_state, run_of}
use Rattle.sweeps.specs.Sites.{IsLastFork}

pub fork-for : (effect : List Alteration → Effect) (sc : Scenario) (setup : Setup) (marks : List Alteration) (step : ℕ)
    (trail : Trail) (fork : Fork) → setup ≡ sc.setup → marks ≡ sc.marks → step ≡ sc.step
    → ((start : State) → IsRightFor trail start setup marks
    → IsForkFor (effect marks) (record { start = start; setup = setup; marks = marks }) step fork)
    → IsRightForRun trail (run_of sc) → IsForkFor (effect sc.marks) (run_of sc) sc.step fork
fork-for effect sc setup marks step trail fork given marked chosen forks h =
    transport (λ i. IsForkFor (effect (marked i))
    (record { start = first_state sc; setup = given i; marks = marked i }) (chosen i) fork)
    (forks (first_state sc) (transport (λ i. IsRightFor trail (first_state sc) (sym given i) (sym marked i)) h))

-- a trail that loads the same ranges as before
pub still-loads : (old new : Trail) (image : Image) → loaded_of new ≡ loaded_of old → LoadsAs old image
    → LoadsAs new image
still-loads old new image same loads a = ap (λ ranges. is_among ranges a) same ∙ loads a

-- and a later one, of a scenario in which an earlier step was struck
pub fork-later : (sc : Scenario) (setup : Setup) (marks : List Alteration) (s : ℕ) (one : Run) (fork next : Fork)
    (later : ℕ) → setup ≡ sc.setup → marks ≡ sc.marks → later ≤ sc.step
    → ((start : State) (last : ℕ) → later ≤ last
    → LeadsTo (After s) one (record { start = start; setup = setup; marks = marks })
    → IsForkFor (After s) one last fork
    → IsForkFor (After later) (record { start = start; setup = setup; marks = marks }) last next)
    → LeadsTo (After s) one (run_of sc) → IsForkFor (After s) one sc.step fork
    → IsForkFor (After later) (run_of sc) sc.step next
fork-later sc setup marks s one fork next later given marked within goes leads is =
    transport (λ i. IsForkFor (After later)
    (record { start = first_state sc; setup = given i; marks = marked i }) sc.step next)
    (goes (first_state sc) sc.step within (transport
    (λ i. LeadsTo (After s) one (record { start = first_state sc; setup = sym given i; marks = sym marked i })) leads)
    is)

-- a fork for a step is at that step or before it
pub fork-before : (step last : ℕ) (run : Run) (fork : Fork) → IsForkFor (After step) run last fork → fork.step ≤ step
fork-before step last run fork is = elim (cases_lt step fork.step) [
  | inl past ↦ absurd (is.step.hidden (step + 1) (omega arith) refl)
  | inr within ↦ omega arith
]

-- a fork of the run is one for its step
pub last_fork-for : (sc : Scenario) (fork : Fork) → IsLastFork sc (Some fork)
    → IsForkFor (After fork.step) (run_of sc) sc.step fork
last_fork-for sc fork is = record {
  whole = tt;
  shows = is.1;
  step = record {
    within = is.0;
    hidden = λ j l e. omega (arith, l, e);
    next = λ l h. h (fork.step + 1) (omega arith) refl;
  };
}

-- and the other way round
pub for-last_fork : (sc : Scenario) (step : ℕ) (fork : Fork) → IsForkFor (After step) (run_of sc) sc.step fork
    → IsLastFork sc (Some fork)
for-last_fork sc step fork is = (is.step.within, is.shows)

-- the machine of an edited run, by what the setup and marks of the scenario are equal to
pub edited-for : (effect : Effect) (fork : Fork) (sc : Scenario) (setup : Setup) (marks : List Alteration)
    (step last : ℕ) (machine : Machine) → setup ≡ sc.setup → marks ≡ sc.marks → step ≡ sc.step
    → ShowsEdited effect fork setup marks last step machine
    → ShowsEdited effect fork sc.setup sc.marks last sc.step machine
edited-for effect fork sc setup marks step last machine given marked chosen =
    transport (λ i. ShowsEdited effect fork (given i) (marked i) last (chosen i) machine)

-- and of the edited one
pub shown-edited : (effect : Effect) (one : Run) (fork : Fork) (sc : Scenario) (setup : Setup) (marks : List Alteration)
    (step last : ℕ) (machine : Machine)
    → setup ≡ sc.setup → marks ≡ sc.marks → step ≡ sc.step → ShowsEdited effect fork setup marks last step machine
    → LeadsTo effect one (run_of sc) → IsForkFor effect one last fork → Shows machine (chosen_state sc)
unfolding chosen_state
shown-edited effect one fork sc setup marks step last machine given marked chosen shows leads is =
    transport (λ i. Shows machine (post (first_state sc) (given i) (marked i) (chosen i)))
    (shows one (first_state sc) (transport
    (λ i. LeadsTo effect one (record { start = first_state sc; setup = sym given i; marks = sym marked i })) leads) is)
