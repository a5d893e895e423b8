-- The same as a table of sides, in a form that has at most one proof, so that a type can keep it as a ghost field.
use Rattle.std.specs.Prelude.{◌≡◌, ℕ, zero, suc, ◌+◌, ◌*◌, ◌<◌, ◌&&◌, ◌||◌, Bool, false, List, length, slice_index_or}
use Rattle.std.proofs.Props.{props}
use Rattle.guest_elf.specs.Profiles.{unit}
use Rattle.guest_machine.specs.State.{State}
use Rattle.guest_machine.specs.Run.{post}
use Rattle.guest_machine.specs.declared.setup.Setup.{Setup}
use Rattle.run_values.specs.declared.alteration.Alteration.{Alteration}
use Rattle.run_values.specs.declared.span.Span.{Span}
use Rattle.checkpoints.specs.Entering.{is_side}
use Rattle.checkpoints.specs.Sides.{Side, has_again, has_side, places, side_of, sided}
use Rattle.checkpoints.specs.declared.sides.Sides.{Sides}

-- does one of the first n steps of a run have a side, and does one have it after another?
unfoldable pub covers : State → Setup → List Alteration → ℕ → Side → Bool
covers start setup marks zero side = false
covers start setup marks (suc k) side =
    covers start setup marks k side || is_side (side_of (post start setup marks k) setup) side.addr side.on

unfoldable pub covers_twice : State → Setup → List Alteration → ℕ → Side → Bool
covers_twice start setup marks zero side = false
covers_twice start setup marks (suc k) side =
    covers_twice start setup marks k side
    || (covers start setup marks k side && is_side (side_of (post start setup marks k) setup) side.addr side.on)

-- a row says of a side what the first n steps say
pub record RowSays (start : State) (setup : Setup) (marks : List Alteration) (n : ℕ) (side : Side) (row : Sides)
    : Type 0 where
  pub once : has_side row side.on ≡ covers start setup marks n side
  pub again : has_again row side.on ≡ covers_twice start setup marks n side

pub record IsKnown (start : State) (setup : Setup) (marks : List Alteration) (n : ℕ) (range : Span) (table : List Sides)
    : Type 0 where
  pub rows : length table ≡ places (unit start.core.isa) range.len
  pub says : (i : ℕ) (on : Bool) (d : Sides) → i < length table
      → RowSays start setup marks n (sided (range.start + unit start.core.isa * i) on) (slice_index_or table i d)

pub known-prop : (start : State) (setup : Setup) (marks : List Alteration) (n : ℕ) (range : Span) (table : List Sides)
    → IsProp (IsKnown start setup marks n range table)
known-prop start setup marks n range table = hlevel props
