-- A sweep has one table.
use Rattle.std.specs.Prelude.{◌≡◌, ℕ, List, ◌++◌}
use Rattle.sweeps.specs.Outcomes.{Met}
use Rattle.sweeps.specs.Tables.{table_text}
use Rattle.sweep_tables.specs.Swept.{AreOf, Case, TellsSidesOf}

-- a text is the whole table for this number of places
abbrev pub IsTableOf : Case → ℕ → List ℕ → Type 0
IsTableOf case n text =
    (first : List ℕ) × (met : List Met) × AreOf case.with_output case.sc case.plan case.from n first met
    × (lines : List ℕ) × TellsSidesOf case n lines × (text ≡ case.head ++ table_text first met lines)

-- two texts that are the table of one case are equal
abbrev pub TableIsOne : Type 0
TableIsOne = (case : Case) (n : ℕ) (xs ys : List ℕ) → IsTableOf case n xs → IsTableOf case n ys → xs ≡ ys
