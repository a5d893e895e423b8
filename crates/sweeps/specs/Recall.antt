-- Outcomes that are known without a run: those of glitches whose register or word the step before kept.
use Rattle.std.specs.Prelude.{◌≡◌, ℕ, ◌+◌, ◌^◌, ◌<◌, ◌≤◌, Bool, true, IfSome, List, []}
use Rattle.std.specs.List.{All}
use Rattle.guest_machine.specs.Exec.{is_running, touched_of}
use Rattle.guest_machine.specs.Shows.{Shows}
use Rattle.guest_machine.specs.State.{State}
use Rattle.guest_machine.specs.declared.machine.Machine.{Machine}
use Rattle.guest_machine.specs.declared.setup.Setup.{Setup}
use Rattle.guest_machine.specs.declared.setup.Touched.{Touched}
use Rattle.pruning.specs.Laws.{HasBytes}
use Rattle.pruning.specs.Passing.{passing}
use Rattle.pruning.specs.Words.{passing_word}
use Rattle.pruning.specs.declared.passing.Passing.{Passing}
use Rattle.pruning.specs.declared.passing.Passing.TheVariants.{Keeps, Looks, Overwrites}
use Rattle.scenario.specs.Scenario.{Scenario, IsOutlineOf}
use Rattle.sweep_plans.specs.declared.change.Change.TheVariants.{Once}
use Rattle.sweep_plans.specs.declared.change.Glitch.{Glitch}
use Rattle.sweep_plans.specs.declared.change.Glitch.TheVariants.{Flip, Set, Turn}
use Rattle.sweeps.specs.Landmarks.{AreEnds}
use Rattle.sweeps.specs.LoneSkips.{AreForeseen}
use Rattle.sweeps.specs.Outcomes.{IsOutcome}
use Rattle.sweeps.specs.Standing.{state_before}
use Rattle.sweeps.specs.declared.recall.Known.{Known}
use Rattle.sweeps.specs.declared.recall.Recall.{Recall}

-- each state that a machine shows touches these ranges in its step
abbrev pub IsTouched : Machine → Setup → Touched → Type 0
IsTouched machine setup touched = (s : State) → Shows machine s → touched ≡ touched_of s setup

-- one of x1 to x31 is this to the step of a state
abbrev pub RegisterIs : State → Setup → ℕ → Passing → Type 0
RegisterIs s setup r is = (1 ≤ r) × (passing s setup r ≡ is)

-- the step keeps what a glitch alters: a register, or a word of memory
abbrev pub IsKept : State → Setup → Glitch → Type 0
IsKept s setup (Flip r mask) = RegisterIs s setup r Keeps
IsKept s setup (Set r value) = RegisterIs s setup r Keeps
IsKept s setup (Turn addr mask) = (addr < 2 ^ 32) × HasBytes s addr × (passing_word s setup addr ≡ Keeps)
IsKept s setup _ = ⊥

-- the step overwrites it
abbrev pub IsGone : State → Setup → Glitch → Type 0
IsGone s setup (Flip r mask) = RegisterIs s setup r Overwrites
IsGone s setup (Set r value) = RegisterIs s setup r Overwrites
IsGone s setup _ = ⊥

-- what is known of a glitch's part in the step. Nothing is, if the step may look at it
abbrev pub Passes : State → Setup → Glitch → Passing → Type 0
Passes s setup glitch Keeps = IsKept s setup glitch
Passes s setup glitch Overwrites = IsGone s setup glitch
Passes s setup glitch Looks = Unit {0}

-- each is the outcome of its glitch just before a step
abbrev pub AreKnown : Bool → Scenario → ℕ → List Known → Type 0
AreKnown with_output sc step = All (λ (known : Known). IsOutcome with_output sc (Once step known.glitch) known.outcome)

-- what is recalled is so: the outcome of the unedited run, those of glitches just before a step, those of glitches just
-- before the next one, if the program still runs there, those of skips, and those of runs that meet the unedited one
pub record Recalls (with_output : Bool) (sc : Scenario) (recall : Recall) : Type 0 where
  pub unedited : IsOutlineOf with_output sc recall.unedited
  pub here : AreKnown with_output sc recall.step recall.here.items
  pub next : is_running (state_before sc (recall.step + 1)).core.status ≡ true
      → AreKnown with_output sc (recall.step + 1) recall.next.items
  pub lone : AreForeseen with_output sc recall.lone
  pub ends : IfSome recall.ends (AreEnds with_output sc)

-- with what is recalled, and what is known of a glitch's part in the step, this is the glitch's outcome just before the
-- step
abbrev pub IsRecalled : Recall → Glitch → Passing → List ℕ → Type 0
IsRecalled recall glitch is outcome =
    (with_output : Bool) (sc : Scenario) → sc.marks ≡ [] → recall.step < sc.step
    → Passes (state_before sc recall.step) sc.setup glitch is → Recalls with_output sc recall
    → IsOutcome with_output sc (Once recall.step glitch) outcome
