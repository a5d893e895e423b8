-- The scenario of a sweep, and what it has met.
use Rattle.std.specs.Prelude.{◌≡◌, ℕ, ◌++◌, Bool, List, length, map}
use Rattle.guest_elf.specs.declared.image.Image.{Image}
use Rattle.scenario.specs.Scenario.{Scenario, IsOutlineOf, at_step, begun_within, limit_for}
use Rattle.suppressions.specs.Rules.{Rule}
use Rattle.texts.specs.Tallied.{entries_of}
use Rattle.sweeps.specs.Recall.{Recalls}
use Rattle.sweeps.specs.Outcomes.{Met, AreMet, standing, steps_of, tallied}
use Rattle.sweeps.specs.Tables.{rows_after, rows_text}
use Rattle.sweep_plans.specs.declared.change.Change.{Change}
use Rattle.sweeps.specs.declared.counting.Counts.{Counts}
use Rattle.sweeps.specs.declared.sweep.Sweep.{Sweep}

-- the scenario of a file with an input and rules at a step, with the limit that the step needs
abbrev pub unedited_at : Image → List ℕ → List Rule → ℕ → Scenario
unedited_at image input rules step = at_step (begun_within (limit_for step) image input rules) step

-- the scenario whose edits are tried, and whether outcomes have the number of bytes written
unfoldable pub scenario_of : Sweep → Scenario
scenario_of sweep = sweep.run.scenario

unfoldable pub tells_output : Sweep → Bool
tells_output sweep = sweep.with_output

-- counts of these changes, each with its outcome, after the unedited run with its own; what is recalled is so
pub record Counted (counts : Counts) (with_output : Bool) (sc : Scenario) (first : List ℕ) (met : List Met) : Type 0
  where
    pub unedited : IsOutlineOf with_output sc first
    pub right : AreMet with_output sc met
    pub tallies : entries_of counts.tallies ≡ tallied first met
    pub edits : counts.edits ≡ standing (length met)
    pub steps : counts.steps ≡ standing (steps_of met)
    pub recalled : Recalls with_output sc counts.recall

-- counts that are the same, but for the course of the unedited run
pub record IsSameBut (old new : Counts) : Type 0 where
  pub tallies : new.tallies ≡ old.tallies
  pub edits : new.edits ≡ old.edits
  pub steps : new.steps ≡ old.steps
  pub recall : new.recall ≡ old.recall

-- what is counted after some more changes, whose rows are appended to a text
abbrev pub CountsMore : Counts → Counts → Bool → Scenario → List Change → List ℕ → List ℕ → Type 0
CountsMore old new with_output sc changes before after =
    (first : List ℕ) (met : List Met) → Counted old with_output sc first met
    → (more : List Met) × (map (λ (m : Met). m.change) more ≡ changes)
    × Counted new with_output sc first (met ++ more) × (after ≡ before ++ rows_after (tallied first met) more)

-- a sweep has met them
unfoldable pub HasMet : Sweep → List ℕ → List Met → Type 0
HasMet sweep first met = Counted sweep.counts (tells_output sweep) (scenario_of sweep) first met

-- what a sweep has met after some more changes, whose rows are appended to a text
abbrev pub MeetsMore : Sweep → Sweep → List Change → List ℕ → List ℕ → Type 0
MeetsMore old new changes before after =
    (first : List ℕ) (met : List Met) → HasMet old first met
    → (more : List Met) × (map (λ (m : Met). m.change) more ≡ changes) × HasMet new first (met ++ more)
    × ((text : List ℕ) × (after ≡ before ++ text) × (rows_text first (met ++ more) ≡ rows_text first met ++ text))
