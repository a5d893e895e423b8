-- What several runs have done with each instruction of a range, and what one more run does that none of them did.
use Rattle.std.specs.Prelude.{◌≡◌, ℕ, zero, suc, ◌+◌, ◌<◌, ◌&&◌, ◌||◌, Bool, true}
use Rattle.std.specs.Prelude.{false, not, List, length, slice_index_or}
use Rattle.checkpoints.specs.declared.sides.Sides.{Sides}

-- what is said of an instruction that no run has reached
abbrev pub unreached : Sides
unreached = record { on = false; away = false; on_again = false; away_again = false }

-- what is said of an instruction by two tables
abbrev pub either : Sides → Sides → Sides
either a b = record {
  on = a.on || b.on;
  away = a.away || b.away;
  on_again = a.on_again || b.on_again;
  away_again = a.away_again || b.away_again;
}

-- does a row say of no side what one before it doesn't say?
abbrev pub is_old : Bool → Bool → Bool
is_old before now = before || not now

abbrev pub adds_none : Sides → Sides → Bool
adds_none seen run =
    is_old seen.on run.on
    && (is_old seen.away run.away && (is_old seen.on_again run.on_again && is_old seen.away_again run.away_again))

-- a table says what two others say. It has the rows of the second
pub record IsMerged (seen run merged : List Sides) : Type 0 where
  pub rows : length merged ≡ length run
  pub each : (i : ℕ) (d : Sides) → i < length run
      → slice_index_or merged i d ≡ either (slice_index_or seen i unreached) (slice_index_or run i unreached)

-- 1 if something is so now, and wasn't
abbrev pub gained : Bool → Bool → ℕ
gained false true = 1
gained _ _ = 0

-- how many sides of an instruction a run has that no run before had, and how many it has more than once that none had
-- more than once
abbrev pub new_in : Sides → Sides → ℕ
new_in seen run = gained seen.on run.on + gained seen.away run.away

abbrev pub again_in : Sides → Sides → ℕ
again_in seen run = gained seen.on_again run.on_again + gained seen.away_again run.away_again

-- the sum over the first rows of two tables
unfoldable pub sum_rows : (Sides → Sides → ℕ) → List Sides → List Sides → ℕ → ℕ
sum_rows count seen run zero = 0
sum_rows count seen run (suc i) =
    sum_rows count seen run i + count (slice_index_or seen i unreached) (slice_index_or run i unreached)

-- how many sides of a range a run has that no run before had, and so on
abbrev pub news_of : List Sides → List Sides → ℕ
news_of seen run = sum_rows new_in seen run (length run)

abbrev pub agains_of : List Sides → List Sides → ℕ
agains_of seen run = sum_rows again_in seen run (length run)

-- none of the first rows of a run says anything new
abbrev pub KnownBelow : List Sides → List Sides → ℕ → Type 0
KnownBelow seen run n =
    (i : ℕ) → i < n → adds_none (slice_index_or seen i unreached) (slice_index_or run i unreached) ≡ true
