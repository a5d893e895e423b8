-- What a sweep finds at a place: what is there, and the machine from which each run continues that is changed there.
use Rattle.std.specs.Prelude.{◌≡◌, ℕ, ◌<◌, ◌≤◌, Bool, List, [], Option, Some, None}
use Rattle.checkpoints.specs.Effects.{LeadsTo, Run, code_effect}
use Rattle.checkpoints.specs.Forks.{IsForkFor}
use Rattle.checkpoints.specs.declared.effect.Effect.TheVariants.{After}
use Rattle.checkpoints.specs.declared.forks.Fork.{Fork}
use Rattle.guest_elf.specs.Images.{profile_of}
use Rattle.guest_machine.specs.Shows.{Shows}
use Rattle.instructions.specs.Codes.{len_of}
use Rattle.instructions.specs.declared.code.Code.{Code}
use Rattle.scenario.specs.Edits.{row}
use Rattle.scenario.specs.Scenario.{Scenario, run_of}
use Rattle.sweep_plans.specs.Changes.{edit_of}
use Rattle.sweep_plans.specs.declared.change.Change.{Change}
use Rattle.sweep_plans.specs.declared.plan.Plan.{Plan}
use Rattle.sweep_plans.specs.declared.standing.Standing.{Standing}
use Rattle.sweep_plans.specs.declared.standing.Standing.TheVariants as At
use Rattle.sweeps.specs.Standing.{IsAt, Stands, all_changes, state_before}
use Rattle.sweeps.specs.Recall.{IsTouched}
use Rattle.sweeps.specs.declared.memory.Turning.{Turning}
use Rattle.sweeps.specs.declared.sites.Site.{Site}

-- each run that is changed at this place continues from a fork
abbrev pub Continues : Scenario → Standing → Fork → Type 0
Continues sc standing fork =
    (change : Change) → IsAt sc standing change
    → IsForkFor (row sc (edit_of change)).effect (run_of sc) sc.step fork

-- each run that has another code of this length at an address continues from a fork
abbrev pub ForksEachCode : Scenario → ℕ → ℕ → Fork → Type 0
ForksEachCode sc addr len fork =
    (code : Code) → len_of code ≡ len
    → IsForkFor (code_effect (profile_of sc.image).isa sc.marks addr code) (run_of sc) sc.step fork

-- the changes of a plan at what is found there
abbrev pub changes_there : Scenario → Plan → Site → List Change
changes_there sc plan site = all_changes sc plan (Some site.standing)

-- this is found where something is, and nothing else
abbrev pub IsFoundAt : Scenario → Option Standing → Option Site → Type 0
IsFoundAt sc there None = there ≡ None
IsFoundAt sc there (Some site) = (there ≡ Some site.standing) × Continues sc site.standing site.fork

-- a fork is one for a run from which other marks of a step lead to that of a scenario
abbrev pub IsLed : ℕ → Scenario → Fork → Type 0
IsLed step sc fork =
    (one : Run) × LeadsTo (After step) one (run_of sc) × IsForkFor (After step) one sc.step fork

-- a fork of the unedited run, if there is one, is before a step up to the chosen one
abbrev pub IsLastFork : Scenario → Option Fork → Type 0
IsLastFork sc None = Unit {0}
IsLastFork sc (Some fork) = (fork.step ≤ sc.step) × Shows fork.machine (state_before sc fork.step)

-- a site is just before a step of the run, which has no marks and goes on behind it
pub record IsBefore (sc : Scenario) (step : ℕ) (site : Site) : Type 0 where
  pub unmarked : sc.marks ≡ []
  pub below : step < sc.step
  pub standing : (pc : ℕ) × (half : Bool) × (site.standing ≡ At.Step step pc half)
  pub stands : Stands sc site.standing
  pub continues : Continues sc site.standing site.fork
  pub shows : Shows site.fork.machine (state_before sc step)

-- and the ranges that the step touches are these
pub record MayTurn (sc : Scenario) (site : Site) (turning : Turning) : Type 0 where
  pub before : IsBefore sc turning.step site
  pub touched : IsTouched site.fork.machine sc.setup turning.touched
