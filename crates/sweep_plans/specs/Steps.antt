-- The steps that the arguments of a sweep name, with what is tried at them; or why they name none.
use Rattle.std.specs.Prelude.{◌≡◌, ℕ, ◌⊎◌, Bool, true, false, if◌then◌else◌, List, codes, Option, Some, None}
use Rattle.std.specs.Str.{bytes_eq}
use Rattle.exit_status.specs.declared.ends.End.{End}
use Rattle.exit_status.specs.declared.ends.End.TheVariants.{Lone}
use Rattle.exit_status.specs.declared.ends.LoneOption.TheVariants as Alone
use Rattle.exit_status.specs.declared.ends.SweepOption.TheVariants.{At, Faults, CodeRange, Pairs}
use Rattle.sweep_plans.specs.Models.{models_of}
use Rattle.sweep_plans.specs.Requests.{IsBadRange, NamesRange, NamesText, closed_range_of, range_of}
use Rattle.sweep_plans.specs.declared.plan.FaultModels.{FaultModels}
use Rattle.sweep_plans.specs.declared.request.Range.{Range}
use Rattle.sweep_plans.specs.declared.steps.StepRequest.{StepRequest}

-- which pairs a text names: of skips, or none without a text
abbrev pub pairs_of : Option (List ℕ) → Option Bool
pairs_of None = Some false
pairs_of (Some text) = if bytes_eq text (codes "skip") then Some true else None

-- the steps in the texts of `--at`, `--faults`, `--code-range` and `--pairs`
pub record NamesSteps (steps_text faults_text : List ℕ) (code_text pairs_text : Option (List ℕ))
    (steps : StepRequest) : Type 0 where
  pub at : range_of steps_text ≡ Some steps.at
  pub models : models_of faults_text ≡ Some steps.models
  pub code : NamesRange closed_range_of code_text steps.code
  pub pairs : pairs_of pairs_text ≡ Some steps.pairs

-- a text that is no range, no list of models or no pairs is how the sweep ends
abbrev pub IsBadAt : List ℕ → End → Type 0
IsBadAt text end = (range_of text ≡ None) × NamesText At text end

abbrev pub AreBadFaults : List ℕ → End → Type 0
AreBadFaults text end = (models_of text ≡ None) × NamesText Faults text end

abbrev pub AreBadPairs : Option (List ℕ) → End → Type 0
AreBadPairs None end = ⊥
AreBadPairs (Some text) end = (pairs_of (Some text) ≡ None) × NamesText Pairs text end

-- why they name no steps: they are read in this order, and the first that can't be read is how the sweep ends
abbrev pub NoCode : Option (List ℕ) → Option (List ℕ) → End → Type 0
NoCode code pairs end =
    IsBadRange CodeRange closed_range_of code end
    ⊎ ((range : Option Range) × NamesRange closed_range_of code range × AreBadPairs pairs end)

abbrev pub NoFaults : List ℕ → Option (List ℕ) → Option (List ℕ) → End → Type 0
NoFaults faults code pairs end =
    AreBadFaults faults end ⊎ ((models : FaultModels) × (models_of faults ≡ Some models) × NoCode code pairs end)

abbrev pub AreBadSteps : List ℕ → List ℕ → Option (List ℕ) → Option (List ℕ) → End → Type 0
AreBadSteps at faults code pairs end =
    IsBadAt at end ⊎ ((range : Range) × (range_of at ≡ Some range) × NoFaults faults code pairs end)

-- the steps in texts that may be there: `--at` and `--faults` need each other, and the other two need them
abbrev pub AreSteps : Option (List ℕ) → Option (List ℕ) → Option (List ℕ) → Option (List ℕ) → Option StepRequest
    → Type 0
AreSteps (Some at) (Some faults) code pairs (Some steps) = NamesSteps at faults code pairs steps
AreSteps None None None None None = Unit {0}
AreSteps _ _ _ _ _ = ⊥

-- why they give none: one is there without another that it needs, or one can't be read
abbrev pub AreNoSteps : Option (List ℕ) → Option (List ℕ) → Option (List ℕ) → Option (List ℕ) → End → Type 0
AreNoSteps (Some at) (Some faults) code pairs end = AreBadSteps at faults code pairs end
AreNoSteps (Some at) None code pairs end = end ≡ Lone Alone.At
AreNoSteps None (Some faults) code pairs end = end ≡ Lone Alone.Faults
AreNoSteps None None (Some code) pairs end = end ≡ Lone Alone.CodeRange
AreNoSteps None None None (Some pairs) end = end ≡ Lone Alone.Pairs
AreNoSteps None None None None end = ⊥
