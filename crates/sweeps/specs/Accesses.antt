-- The table of what some steps do first with each byte: a memory of which each byte has a number for that.
use Rattle.std.specs.Prelude.{◌≡◌, ℕ, ◌+◌, ◌-◌, ◌%◌, ◌^◌, ◌<◌, ◌==◌, Bool, true, false, if◌then◌else◌, List, Option}
use Rattle.guest_machine.specs.Spans.{covers}
use Rattle.run_values.specs.declared.span.Span.{Span}
use Rattle.shadow_memory.specs.Memories.{bytes_in, shadows_in}
use Rattle.shadow_memory.specs.Shadows.{shadow_of}
use Rattle.shadow_memory.specs.declared.cells.RangeKind.TheVariants.{Defined}
use Rattle.shadow_memory.specs.declared.memory.Memory.{Memory}
use Rattle.scenario.specs.Scenario.{Scenario}
use Rattle.sweeps.specs.Memory.{turned_below, is_read, is_written}
use Rattle.sweeps.specs.Sweeps.{CountsMore}
use Rattle.sweeps.specs.declared.counting.Counts.{Counts}

-- 0 for a byte that they neither read nor write, 1 for one that they read before they write it, and 2 for one that they
-- write first
unfoldable pub kept_as : Bool → Bool → ℕ
kept_as true written = 1
kept_as false true = 2
kept_as false false = 0

-- the number of a byte with another access: the first one stays
abbrev pub entered : ℕ → ℕ → ℕ
entered how old = if old == 0 then how else old

-- one byte is entered
abbrev pub IsEntered : ℕ → ℕ → Memory → Memory → Type 0
IsEntered how addr old new =
    (a : ℕ) → a < 2 ^ 32
    → bytes_in new a ≡ (if a == addr then entered how (bytes_in old a) else bytes_in old a)

-- the bytes of a range are entered, if there is one
abbrev pub AreEntered : ℕ → Option Span → Memory → Memory → Type 0
AreEntered how span old new =
    (a : ℕ) → a < 2 ^ 32
    → bytes_in new a ≡ (if covers span a then entered how (bytes_in old a) else bytes_in old a)

-- a byte that is entered is in a word whose four bytes are accessible and defined: a search for such words finds it
abbrev pub ShowsEntered : Memory → Type 0
ShowsEntered table =
    (a : ℕ) → a < 2 ^ 32 → (bytes_in table a ≡ 0 → ⊥) → (i : ℕ) → i < 4
    → shadows_in table (a - a % 4 + i) ≡ shadow_of Defined

-- it is the table of some steps of the run from a first one on
pub record IsTable (sc : Scenario) (first n : ℕ) (table : Memory) : Type 0 where
  pub kept : (a : ℕ) → a < 2 ^ 32 → bytes_in table a ≡ kept_as (is_read sc first n a) (is_written sc first n a)
  pub shown : ShowsEntered table

-- if the flips of bytes below one address were counted, and rows were appended, so are then those below another
abbrev pub TurnsOn : Scenario → ℕ → Bool → ℕ → ℕ → Counts → List ℕ → Counts → List ℕ → Type 0
TurnsOn sc step with_output from to old before new after =
    (first : Counts) (text : List ℕ) → CountsMore first old with_output sc (turned_below sc step from) text before
    → CountsMore first new with_output sc (turned_below sc step to) text after
