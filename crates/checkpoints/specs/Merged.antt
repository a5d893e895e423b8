-- What a table says of several runs.
use Rattle.std.specs.Prelude.{◌≡◌, ℕ, ◌+◌, ◌*◌, ◌<◌, ◌||◌, Bool, List, length, slice_index_or}
use Rattle.guest_elf.specs.Profiles.{unit}
use Rattle.guest_machine.specs.State.{State}
use Rattle.guest_machine.specs.declared.setup.Setup.{Setup}
use Rattle.run_values.specs.declared.alteration.Alteration.{Alteration}
use Rattle.checkpoints.specs.Effects.{LeadsTo, Run}
use Rattle.checkpoints.specs.Forks.{IsForkFor}
use Rattle.checkpoints.specs.Known.{covers}
use Rattle.checkpoints.specs.Sides.{Side, has_side, sided}
use Rattle.checkpoints.specs.declared.effect.Effect.{Effect}
use Rattle.checkpoints.specs.declared.forks.Fork.{Fork}
use Rattle.checkpoints.specs.declared.sides.Sides.{Sides}

-- a row says of a side whether the first n steps of a run have it, or some other runs do
abbrev pub AlsoSays : Bool → State → Setup → List Alteration → ℕ → Side → Sides → Type 0
AlsoSays others start setup marks n side row = has_side row side.on ≡ (others || covers start setup marks n side)

-- if a table says so of a run's steps before a fork, another says so of the edited run up to a step. The first place of
-- the tables is at an address
abbrev pub AlsoEnters : Effect → Fork → ℕ → Setup → List Alteration → ℕ → List Sides → List Sides → Type 0
AlsoEnters effect fork first setup marks step old new =
    (one : Run) (start : State) (last i : ℕ) (on others : Bool) (d : Sides)
    → LeadsTo effect one (record { start = start; setup = setup; marks = marks }) → IsForkFor effect one last fork
    → i < length old
    → AlsoSays others one.start one.setup one.marks fork.step (sided (first + unit one.start.core.isa * i) on)
    (slice_index_or old i d)
    → AlsoSays others start setup marks step (sided (first + unit one.start.core.isa * i) on) (slice_index_or new i d)
