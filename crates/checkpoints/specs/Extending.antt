-- What a table of sides says after further steps of a run.
use Rattle.std.specs.Prelude.{◌≡◌, ℕ, ◌+◌, ◌*◌, ◌<◌, Bool, true, false, List, length, Option, Some, slice_index_or}
use Rattle.guest_machine.specs.State.{State}
use Rattle.guest_machine.specs.Exec.{touched_of}
use Rattle.guest_machine.specs.Run.{pre, post}
use Rattle.guest_machine.specs.Shows.{Shows}
use Rattle.guest_machine.specs.declared.machine.Machine.{Machine}
use Rattle.guest_machine.specs.declared.setup.Setup.{Setup}
use Rattle.run_values.specs.declared.alteration.Alteration.{Alteration}
use Rattle.run_values.specs.declared.span.Span.{Span}
use Rattle.checkpoints.specs.Merged.{AlsoSays}
use Rattle.checkpoints.specs.Sides.{RowTells, side_of, sided}
use Rattle.checkpoints.specs.declared.sides.Sides.{Sides}

-- what a table says of the steps of a run below one, another says of those below a later one: whether they have the
-- sides of its places, and whether they or other runs do
pub record Extends (start : State) (setup : Setup) (marks : List Alteration) (from to first apart : ℕ)
    (old new : List Sides) : Type 0 where
  pub tells : (i : ℕ) (on : Bool) (d : Sides) → i < length old
      → RowTells start setup marks from (sided (first + apart * i) on) (slice_index_or old i d)
      → RowTells start setup marks to (sided (first + apart * i) on) (slice_index_or new i d)
  pub also : (i : ℕ) (on others : Bool) (d : Sides) → i < length old
      → AlsoSays others start setup marks from (sided (first + apart * i) on) (slice_index_or old i d)
      → AlsoSays others start setup marks to (sided (first + apart * i) on) (slice_index_or new i d)

-- a number of steps of a run, from one on, execute instructions one after another, each as long as places are apart
abbrev pub GoesStraight : State → Setup → List Alteration → ℕ → ℕ → ℕ → ℕ → Type 0
GoesStraight start setup marks from pc apart count =
    (i : ℕ) → i < count → side_of (post start setup marks (from + i)) setup ≡ Some (sided (pc + apart * i) true)

-- a step of a run fetches this code, if any, and leads to a machine
pub record Turns (start : State) (setup : Setup) (marks : List Alteration) (step : ℕ) (machine : Machine)
    (code : Option Span) : Type 0 where
  pub shows : Shows machine (pre start setup marks (step + 1))
  pub fetched : code ≡ (touched_of (post start setup marks step) setup).fetch

-- a step of a run executes the instruction at an address, goes elsewhere from there, and leads to a machine
pub record Leaves (start : State) (setup : Setup) (marks : List Alteration) (step : ℕ) (machine : Machine) (addr : ℕ)
    : Type 0 where
  pub shows : Shows machine (pre start setup marks (step + 1))
  pub side : side_of (post start setup marks step) setup ≡ Some (sided addr false)
