-- What a sweep's table says about its edits: how its outcomes are numbered and counted; that each edit has one outcome
-- and one number of steps; that the parts of a sweep have the edits of the whole; and which bytes are read later.
use Rattle.std.specs.Prelude.{◌≡◌, ℕ, ◌+◌, ◌-◌, ◌^◌, ◌<◌, ◌≤◌, Bool, List, [], ◌∷◌, ◌++◌, Some, count_by, Decides, map}
use Rattle.std.specs.Prelude.{slice_get}
use Rattle.std.specs.List.{flat_map}
use Rattle.std.specs.Str.{bytes_eq}
use Rattle.checkpoints.specs.Searches.{Hits}
use Rattle.checkpoints.specs.declared.searches.Watch.{Watch}
use Rattle.checkpoints.specs.declared.searches.Watch.TheVariants.{Read, Write}
use Rattle.scenario.specs.Scenario.{Scenario, IsOutlineOf, first_state}
use Rattle.texts.specs.Distinct.{distinct}
use Rattle.texts.specs.Tallied.{number_of}
use Rattle.sweeps.specs.Memory.{is_read}
use Rattle.sweeps.specs.Outcomes.{Met, AreMet, TakesSteps, standing, tallied}
use Rattle.sweeps.specs.Standing.{changes_from}
use Rattle.sweeps.specs.Tables.{met_text, rows_text}
use Rattle.sweep_plans.specs.Planned.{part_from, part_to}
use Rattle.sweep_plans.specs.Numbers.{below}
use Rattle.sweep_plans.specs.Plans.{place_count}
use Rattle.sweep_plans.specs.declared.change.Change.{Change}
use Rattle.sweep_plans.specs.declared.plan.Plan.{Plan}
use Rattle.sweep_plans.specs.declared.request.Part.{Part}

-- the distinct outcomes, in order of first occurrence from the unedited run's on
abbrev pub outcomes_of : List ℕ → List Met → List (List ℕ)
outcomes_of first met = distinct bytes_eq (first ∷ map (λ (m : Met). m.outcome) met)

-- they are the tallied ones, each with the number of edits that lead to it
abbrev pub TalliesCount : Type 0
TalliesCount = (first : List ℕ) (met : List Met) → tallied first met
    ≡ map (λ outcome. (outcome, standing (count_by (λ (m : Met). bytes_eq m.outcome outcome) met)))
    (outcomes_of first met)

-- the number in the row of an edit is given by what was tallied before it; that is the place of the edit's outcome
-- among all outcomes, whatever comes after it
abbrev pub RowsHaveNumbers : Type 0
RowsHaveNumbers = (first : List ℕ) (before : List Met) (m : Met) → rows_text first (before ++ m ∷ [])
    ≡ rows_text first before ++ met_text (tallied first before) m.change m.outcome

abbrev pub NumbersArePlaces : Type 0
NumbersArePlaces = (first : List ℕ) (before : List Met) (m : Met) (after : List Met)
    → slice_get (outcomes_of first (before ++ m ∷ after)) (number_of (tallied first before) m.outcome) ≡ Some m.outcome

-- an edit needs one number of steps
abbrev pub StepsAreOne : Type 0
StepsAreOne = (sc : Scenario) (change : Change) (m n : ℕ) → TakesSteps sc change m → TakesSteps sc change n → m ≡ n

-- a scenario has one outline
abbrev pub OutlineIsOne : Type 0
OutlineIsOne = (with_output : Bool) (sc : Scenario) (xs ys : List ℕ) → IsOutlineOf with_output sc xs
    → IsOutlineOf with_output sc ys → xs ≡ ys

-- edits of one scenario have one list of outcomes and steps
abbrev pub MetAreOne : Type 0
MetAreOne = (with_output : Bool) (sc : Scenario) (ms ns : List Met)
    → map (λ (m : Met). m.change) ms ≡ map (λ (m : Met). m.change) ns → AreMet with_output sc ms
    → AreMet with_output sc ns → ms ≡ ns

-- the changes at the places of a part
abbrev pub changes_in : Scenario → Plan → Part → List Change
changes_in sc plan part = changes_from sc plan (part_from plan part) (part_to plan part - part_from plan part)

-- those of the parts 1 to N, one part after another, are the changes at all places
abbrev pub PartsHaveAllChanges : Type 0
PartsHaveAllChanges = (sc : Scenario) (plan : Plan) (parts : ℕ) → 1 ≤ parts
    → flat_map (λ before. changes_in sc plan (record { index = before + 1; count = parts })) (below parts)
    ≡ changes_from sc plan 0 (place_count plan)

-- ---- bytes that are read later

-- a step of the run does this with the byte at an address, as a look at the run finds it
abbrev pub DoesWith : Watch → Scenario → ℕ → ℕ → Type 0
DoesWith watch sc a step =
    Hits (record { watch = watch; range = record { start = a; len = 1 } }) (first_state sc) sc.setup sc.marks step

-- one of n steps from a first one on reads the byte, and none before that one writes it
abbrev pub IsReadFirst : Scenario → ℕ → ℕ → ℕ → Type 0
IsReadFirst sc first n a =
    (k : ℕ) × (first ≤ k) × (k < first + n) × DoesWith Read sc a k
    × ((j : ℕ) → first ≤ j → j < k → DoesWith Write sc a j → ⊥)

-- the test of the model `memory` says just that
abbrev pub ReadsAreLooks : Type 0
ReadsAreLooks =
    (sc : Scenario) (first n a : ℕ) → a < 2 ^ 32 → Decides (is_read sc first n a) (IsReadFirst sc first n a)
