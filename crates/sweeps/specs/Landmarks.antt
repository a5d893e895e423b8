-- Machines of the unedited run that are held, and what they say of a run that shows one of their states again.
use Rattle.std.specs.Prelude.{◌≡◌, ◌⊎◌, ℕ, ◌+◌, ◌-◌, ◌*◌, ◌≤◌, Bool, true, List, [], Some, slice_get}
use Rattle.guest_machine.specs.Run.{marks_at, pre}
use Rattle.guest_machine.specs.Shows.{Shows}
use Rattle.guest_machine.specs.State.{State}
use Rattle.guest_machine.specs.declared.machine.Machine.{Machine}
use Rattle.guest_machine.specs.declared.setup.Setup.{Setup}
use Rattle.run_values.specs.declared.alteration.Alteration.{Alteration}
use Rattle.replay_report.specs.Outlines.{IsOutline}
use Rattle.scenario.specs.Scenario.{Scenario}
use Rattle.sweeps.specs.declared.endings.Ends.{Ends}
use Rattle.sweeps.specs.declared.endings.Pursued.{Pursued}
use Rattle.sweeps.specs.declared.landmarks.Landmarks.{Landmarks}

-- a machine is held at a place: before the step that many times sixteen after the first
abbrev pub IsHeld : Landmarks → ℕ → Machine → Type 0
IsHeld landmarks i held = slice_get landmarks.machines.items i ≡ Some held

-- a machine shows what follows from each state of a held machine, where the run has come
abbrev pub Follows : Setup → Landmarks → Machine → Type 0
Follows setup landmarks machine =
    (i : ℕ) (held : Machine) → IsHeld landmarks i held → (s : State) → Shows held s
    → Shows machine (pre s setup [] (landmarks.steps - 16 * i))

-- no machine is held after that
abbrev pub AreSpaced : Landmarks → Type 0
AreSpaced landmarks = (i : ℕ) (held : Machine) → IsHeld landmarks i held → 16 * i ≤ landmarks.steps

-- each machine was held before, or is held where the run has come
abbrev pub HoldsAnother : Landmarks → Landmarks → Type 0
HoldsAnother old new = (i : ℕ) (held : Machine) → IsHeld new i held → IsHeld old i held ⊎ (16 * i ≡ old.steps)

-- the machine that is held before a step shows each state of another
pub record Meets (landmarks : Landmarks) (machine : Machine) (step : ℕ) : Type 0 where
  pub place : ℕ
  pub held : Machine
  pub there : IsHeld landmarks place held
  pub before : landmarks.first + 16 * place ≡ step
  pub shows : (s : State) → Shows machine s → Shows held s

-- nothing is altered from a step on
abbrev pub NoneFrom : ℕ → List Alteration → Type 0
NoneFrom from marks = (k : ℕ) → from ≤ k → marks_at k marks ≡ []

-- ---- the outcome of the unedited run

-- a text is the outline of a state, as a scenario shows states
abbrev pub Outlines : Bool → Scenario → State → List ℕ → Type 0
Outlines with_output sc s text = IsOutline s sc.image sc.rules sc.options with_output text

-- a text is the outline of what follows from each state of each held machine, a number of steps after the chosen step
unfoldable pub EndsIn : Bool → Scenario → Landmarks → ℕ → List ℕ → Type 0
EndsIn with_output sc landmarks lead text =
    (i : ℕ) (held : Machine) → IsHeld landmarks i held → (s : State) → Shows held s
    → Outlines with_output sc (pre s sc.setup [] (sc.step + lead - (landmarks.first + 16 * i))) text

-- the two texts are those at the chosen step, and one step after it
abbrev pub AreEnds : Bool → Scenario → Ends → Type 0
AreEnds with_output sc ends =
    EndsIn with_output sc ends.landmarks 0 ends.same × EndsIn with_output sc ends.landmarks 1 ends.ahead

-- ---- a run that is compared with the held machines

-- a machine is that of another's run before a later step; if the two runs have met, a machine that is held shows each
-- of its states, by a number of steps ahead
pub record IsPursued (sc : Scenario) (landmarks : Landmarks) (machine : Machine) (from lead : ℕ) (pursued : Pursued)
    : Type 0
  where
    pub low : from ≤ pursued.step
    pub high : pursued.step ≤ sc.step
    pub shows : (s : State) → Shows machine s → Shows pursued.machine (pre s sc.setup [] (pursued.step - from))
    pub met : pursued.is_met ≡ true → Meets landmarks pursued.machine (pursued.step + lead)
