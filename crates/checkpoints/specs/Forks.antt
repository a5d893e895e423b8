-- Where an edited run continues from the run that it is an edit of: the machine before the last step at which the edit
-- doesn't show yet.
use Rattle.std.specs.Prelude.{ℕ, ◌+◌, ◌^◌, ◌<◌, ◌≤◌, List}
use Rattle.guest_machine.specs.Run.{pre, post}
use Rattle.guest_machine.specs.Shows.{Shows}
use Rattle.guest_machine.specs.declared.machine.Machine.{Machine}
use Rattle.guest_machine.specs.declared.setup.Setup.{Setup}
use Rattle.run_values.specs.declared.alteration.Alteration.{Alteration}
use Rattle.guest_machine.specs.State.{State}
use Rattle.instructions.specs.Codes.{len_of}
use Rattle.checkpoints.specs.Effects.{EffectShows, LeadsTo, Run}
use Rattle.checkpoints.specs.FirstEffects.{IsBelowFirst}
use Rattle.checkpoints.specs.Trails.{IsRightFor}
use Rattle.checkpoints.specs.declared.effect.Effect.{Effect}
use Rattle.checkpoints.specs.declared.effect.Effect.TheVariants.{Patch, Anew}
use Rattle.checkpoints.specs.declared.forks.Fork.{Fork}
use Rattle.checkpoints.specs.declared.trail.Trail.{Trail}

-- a step is the last one, up to another, at which an edit with an effect doesn't show in a run
pub record IsLastUnshown (effect : Effect) (run : Run) (last k : ℕ) : Type 0 where
  pub within : k ≤ last
  pub hidden : IsBelowFirst (EffectShows effect run.start run.setup run.marks) k
  pub next : k < last → IsBelowFirst (EffectShows effect run.start run.setup run.marks) (k + 1) → ⊥

-- if the effect writes a code, none of its bytes lies past the last address
abbrev pub WritesWhole : Effect → Type 0
WritesWhole (Patch addr code) = addr + len_of code ≤ 2 ^ 32
WritesWhole (Anew addr code) = addr + len_of code ≤ 2 ^ 32
WritesWhole _ = Unit {0}

-- a fork's machine shows the state of a run before the fork's step, which is that one
pub record IsForkFor (effect : Effect) (run : Run) (last : ℕ) (fork : Fork) : Type 0 where
  pub whole : WritesWhole effect
  pub shows : Shows fork.machine (pre run.start run.setup run.marks fork.step)
  pub step : IsLastUnshown effect run last fork.step

-- a machine shows the state after the marks of a step of each run to which an effect leads from a run that a fork is
-- for
abbrev pub ShowsEdited : Effect → Fork → Setup → List Alteration → ℕ → ℕ → Machine → Type 0
ShowsEdited effect fork setup marks last step machine =
    (one : Run) (start : State) → LeadsTo effect one (record { start = start; setup = setup; marks = marks })
    → IsForkFor effect one last fork
    → Shows machine (post start setup marks step)

-- ---- of each run that a trail is right for

-- a step is the last one, up to another, at which the edit doesn't show
abbrev pub IsStepOf : Effect → Trail → Setup → List Alteration → ℕ → ℕ → Type 0
IsStepOf effect trail setup marks last k =
    (start : State) → IsRightFor trail start setup marks
    → IsLastUnshown effect (record { start = start; setup = setup; marks = marks }) last k

-- a fork is one for the run
abbrev pub IsForkOf : Effect → Trail → Setup → List Alteration → ℕ → Fork → Type 0
IsForkOf effect trail setup marks last fork =
    (start : State) → IsRightFor trail start setup marks
    → IsForkFor effect (record { start = start; setup = setup; marks = marks }) last fork
