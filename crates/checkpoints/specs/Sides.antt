-- Which instructions a run has executed, and how it went on from each.
use Rattle.std.specs.Prelude.{◌≡◌, ℕ, ◌+◌, ◌*◌, ◌-◌, ◌/◌, ◌%◌, ◌^◌, ◌<◌, ◌==◌, Bool, true, false, List, length, Option}
use Rattle.std.specs.Prelude.{Some, None, Decides, slice_index_or}
use Rattle.guest_elf.specs.Profiles.{unit}
use Rattle.guest_machine.specs.State.{State}
use Rattle.guest_machine.specs.Exec.{exec, touched_of}
use Rattle.guest_machine.specs.Run.{post}
use Rattle.guest_machine.specs.declared.setup.Setup.{Setup}
use Rattle.run_values.specs.declared.alteration.Alteration.{Alteration}
use Rattle.run_values.specs.declared.span.Span.{Span}
use Rattle.checkpoints.specs.declared.sides.Sides.{Sides}

-- a side of an instruction: its address, and whether the run continues after it, or elsewhere
pub record Side : Type 0 where
  pub addr : ℕ
  pub on : Bool

abbrev pub sided : ℕ → Bool → Side
sided addr on = record { addr = addr; on = on }

-- the side of a step that fetches this code, if any, and leaves pc at an address
abbrev pub side_by : Option Span → ℕ → Option Side
side_by None pc = None
side_by (Some code) pc = Some (sided code.start (pc == (code.start + code.len) % 2 ^ 32))

-- the side of the step of a state. A function of the heap that is called by name fetches no code, nor does a machine
-- that is halted
abbrev pub side_of : State → Setup → Option Side
side_of s setup = side_by (touched_of s setup).fetch (exec s setup).core.pc

-- one of the first n steps of a run has this side
abbrev pub Covers : State → Setup → List Alteration → ℕ → Side → Type 0
Covers start setup marks n side = (k : ℕ) × (k < n) × (side_of (post start setup marks k) setup ≡ Some side)

-- one of them has it after another
abbrev pub CoversTwice : State → Setup → List Alteration → ℕ → Side → Type 0
CoversTwice start setup marks n side =
    (k : ℕ) × (k < n) × Covers start setup marks k side × (side_of (post start setup marks k) setup ≡ Some side)

-- ---- a table of sides

-- what a row says of the side on which the run goes on, and of the other
abbrev pub has_side : Sides → Bool → Bool
has_side sides true = sides.on
has_side sides false = sides.away

-- and whether it says so of more than one step
abbrev pub has_again : Sides → Bool → Bool
has_again sides true = sides.on_again
has_again sides false = sides.away_again

-- a row says of a side whether the first n steps of a run have it, and whether more than one does
pub record RowTells (start : State) (setup : Setup) (marks : List Alteration) (n : ℕ) (side : Side) (row : Sides)
    : Type 0 where
  pub once : Decides (has_side row side.on) (Covers start setup marks n side)
  pub again : Decides (has_again row side.on) (CoversTwice start setup marks n side)

-- the number of places in a number of bytes: one in each instruction's shortest length, the last perhaps cut
abbrev pub places : ℕ → ℕ → ℕ
places apart len = (len + (apart - 1)) / apart

-- a range of addresses
abbrev pub span : ℕ → ℕ → Span
span start len = record { start = start; len = len }

-- a table has a row for each place of a range, and says of both sides of each what the first n steps of a run say
pub record IsSides (start : State) (setup : Setup) (marks : List Alteration) (n : ℕ) (range : Span) (table : List Sides)
    : Type 0 where
  pub rows : length table ≡ places (unit start.core.isa) range.len
  pub tells : (i : ℕ) (on : Bool) (d : Sides) → i < length table
      → RowTells start setup marks n (sided (range.start + unit start.core.isa * i) on) (slice_index_or table i d)
