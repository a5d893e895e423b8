-- The outcome of a change: the outcome of one run from step zero with only that change, and the number of steps that
-- the change needs.
use Rattle.std.specs.Prelude.{◌≡◌, ℕ, ◌-◌, Bool, List, [], ◌∷◌, Option, Some, None, fold, min, sum_by}
use Rattle.checkpoints.specs.Forks.{IsLastUnshown}
use Rattle.scenario.specs.Edits.{row}
use Rattle.scenario.specs.Scenario.{Scenario, IsOutlineOf, run_of}
use Rattle.texts.specs.Tallied.{with_text}
use Rattle.commands.specs.declared.edit.Edit.{Edit}
use Rattle.sweep_plans.specs.Changes.{edit_of, second_of}
use Rattle.sweep_plans.specs.declared.change.Change.{Change}

-- a scenario with the edits of a change, the second after the first, if there are two
abbrev pub with_second : Scenario → Option Edit → Scenario
with_second sc (Some edit) = (row sc edit).after
with_second sc None = sc

abbrev pub edited : Scenario → Change → Scenario
edited sc change = with_second (row sc (edit_of change)).after (second_of change)

-- a text is the outcome of a change: the outline of the scenario with its edits
unfoldable pub IsOutcome : Bool → Scenario → Change → List ℕ → Type 0
IsOutcome with_output sc change text = IsOutlineOf with_output (edited sc change) text

-- a change needs this number of steps: those from the last one at which its first edit doesn't show yet, up to the
-- chosen one. The number follows from the run, and doesn't say how many steps a sweep executes, which may be fewer
unfoldable pub TakesSteps : Scenario → Change → ℕ → Type 0
TakesSteps sc change steps =
    (from : ℕ) × IsLastUnshown (row sc (edit_of change)).effect (run_of sc) sc.step from × (steps ≡ sc.step - from)

-- a change, its outcome, and the steps that it needs
pub record Met : Type 0 where
  pub change : Change
  pub outcome : List ℕ
  pub steps : ℕ

-- each has the outcome and the steps of its change
abbrev pub AreMet : Bool → Scenario → List Met → Type 0
AreMet with_output sc [] = Unit {0}
AreMet with_output sc (m ∷ ms) =
    (IsOutcome with_output sc m.change m.outcome × TakesSteps sc m.change m.steps) × AreMet with_output sc ms

-- the distinct outcomes in order of first occurrence, from the unedited run's on, each with the number of edits that
-- lead to it
unfoldable pub tallied : List ℕ → List Met → List (List ℕ × ℕ)
tallied first met = fold (λ entries (m : Met). with_text entries m.outcome) ((first, 0) ∷ []) met

-- a number that stops at the greatest 64-bit one
abbrev pub standing : ℕ → ℕ
standing n = min n 18446744073709551615

-- the number of steps that all of them need
abbrev pub steps_of : List Met → ℕ
steps_of met = sum_by (λ (m : Met). m.steps) met
