-- What the runs of a sweep have executed.
use Rattle.std.specs.Prelude.{◌≡◌, ℕ, ◌+◌, ◌*◌, ◌<◌, ◌||◌, ◌⊎◌, Bool, true, List, [], ◌++◌, length, slice_index_or}
use Rattle.std.specs.List.{list_any}
use Rattle.guest_elf.specs.Profiles.{unit}
use Rattle.checkpoints.specs.Known.{covers}
use Rattle.checkpoints.specs.Sides.{Side, has_side, places, sided, span}
use Rattle.checkpoints.specs.declared.sides.Sides.{Sides}
use Rattle.run_values.specs.declared.span.Span.{Span}
use Rattle.scenario.specs.Scenario.{Scenario, first_state}
use Rattle.sweep_plans.specs.Plans.{has_only_bytes}
use Rattle.sweep_plans.specs.declared.change.Change.{Change}
use Rattle.sweep_plans.specs.declared.plan.Plan.{Plan}
use Rattle.sweep_plans.specs.declared.standing.Standing.{Standing}
use Rattle.sweep_plans.specs.declared.standing.Standing.TheVariants as At
use Rattle.sweeps.specs.Outcomes.{edited}
use Rattle.sweeps.specs.Sweeps.{scenario_of}
use Rattle.sweeps.specs.declared.entering.Coverage.{Coverage}
use Rattle.sweeps.specs.declared.sweep.Sweep.{Sweep}

-- how far the places of a scenario's instructions are apart
abbrev pub apart_in : Scenario → ℕ
apart_in sc = unit (first_state sc).core.isa

-- does a step of a scenario's run below the chosen one have a side?
abbrev pub run_covers : Scenario → Side → Bool
run_covers sc side = covers (first_state sc) sc.setup sc.marks sc.step side

-- does one of the unedited run have it, or of the run with some change?
abbrev pub some_covers : Scenario → List Change → Side → Bool
some_covers sc changes side = run_covers sc side || list_any (λ change. run_covers (edited sc change) side) changes

-- a table has a row for each place of a range, and says of both sides of each whether one of these runs has it
pub record AreCovered (sc : Scenario) (changes : List Change) (range : Span) (table : List Sides) : Type 0 where
  pub rows : length table ≡ places (apart_in sc) range.len
  pub says : (i : ℕ) (on : Bool) (d : Sides) → i < length table
      → has_side (slice_index_or table i d) on ≡ some_covers sc changes (sided (range.start + apart_in sc * i) on)

-- a table that says so of some changes says so then of others too
abbrev pub CoversMore : Scenario → ℕ → List Change → List Sides → List Sides → Type 0
CoversMore sc first changes old new =
    (done : List Change) (len : ℕ) → AreCovered sc done (span first len) old
    → AreCovered sc (done ++ changes) (span first len) new

-- the table of a coverage says so of these changes, too
abbrev pub CoverageGrows : Scenario → List Change → Coverage → Coverage → Type 0
CoverageGrows sc changes old new = CoversMore sc old.range.start changes old.table.items new.table.items

-- a table can say what the runs of the changes there execute: at a byte, or anywhere if it has no rows
abbrev pub MayCover : Standing → List Sides → Type 0
MayCover (At.Byte offset old) table = Unit {0}
MayCover _ table = table ≡ []

-- it can say so of all changes of a plan: they are of bytes, or its range has none
abbrev pub FitsPlan : Plan → Span → Type 0
FitsPlan plan range = (has_only_bytes plan ≡ true) ⊎ (range.len ≡ 0)

-- a byte is there
abbrev pub IsByte : Standing → Type 0
IsByte (At.Byte offset old) = Unit {0}
IsByte _ = ⊥

-- ---- the table of a sweep

unfoldable pub range_of : Sweep → Span
range_of sweep = sweep.coverage.range

unfoldable pub table_of : Sweep → List Sides
table_of sweep = sweep.coverage.table.items

-- it says what the unedited run and those with these changes have executed of its range
abbrev pub HasCovered : Sweep → List Change → Type 0
HasCovered sweep changes = AreCovered (scenario_of sweep) changes (range_of sweep) (table_of sweep)
