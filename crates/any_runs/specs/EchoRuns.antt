-- Runs that may write bytes that may be any.
use Rattle.std.specs.Prelude.{◌≡◌, ℕ, ◌<◌, ◌≤◌, Bool, List, []}
use Rattle.guest_elf.specs.declared.image.Image.{Image}
use Rattle.guest_machine.specs.State.{State}
use Rattle.guest_machine.specs.Exec.{exec, touched_of}
use Rattle.guest_machine.specs.Run.{pre}
use Rattle.guest_machine.specs.declared.setup.Setup.{Setup}
use Rattle.clean_reports.specs.Agreement.{AreBytes}
use Rattle.clean_reports.specs.Disturbed.{IsStartOf}
use Rattle.clean_reports.specs.Heap.{BlocksAreOpen}
use Rattle.clean_reports.specs.Uses.{NoUse}
use Rattle.any_runs.specs.Sharper.{HasStackPointer}
use Rattle.any_runs.specs.Stands.{Changes, at_step, before}
use Rattle.any_runs.specs.Inputs.{DiffersIn, blurred_at, blurred_before, unchanged}
use Rattle.any_runs.specs.Echoes.{StandsBut, WritesOpen, kept}

-- what is asked of the one run, where writes of bytes that may be any are no uses
pub record IsEchoFit (any : ℕ → Bool) (start : State) (setup : Setup) (change : Changes) (n : ℕ) : Type 0 where
  pub pointer : (k : ℕ) → k < n → HasStackPointer (blurred_at any start setup change k)
  pub left : (k : ℕ) → k < n → HasStackPointer (exec (blurred_at any start setup change k) setup)
  pub writes : (k : ℕ) → k < n → WritesOpen (blurred_at any start setup change k) setup
  pub uses : NoUse (kept (blurred_before any start setup change n).events)

-- the changes before step k keep that one state stands for the other but for the output, and raise no errors
pub record KeepsBut (change other : Changes) (s t : State) (k : ℕ) : Type 0 where
  pub stands : StandsBut s t → StandsBut (change k s) (other k t)
  pub events : (change k s).events ≡ s.events

-- The law of runs with changes before their steps, where bytes that may be any may be written: the one run stands for
-- the other but for the content of the output, and each step touches the same addresses
abbrev pub EchoRunsStand : List ℕ → List ℕ → Type 0
EchoRunsStand input another =
    (setup other : Setup) (any : ℕ → Bool) (start begun : State) (change changed : Changes) (n : ℕ)
    → setup.input ≡ input → other.input ≡ another → DiffersIn any setup other → StandsBut start begun
    → ((k : ℕ) → k ≤ n
    → KeepsBut change changed (blurred_before any start setup change k) (before begun other changed k) k)
    → IsEchoFit any start setup change n
    → ((k : ℕ) → k < n → BlocksAreOpen (at_step begun other changed k).core)
    → ((k : ℕ) → k ≤ n → StandsBut (blurred_at any start setup change k) (at_step begun other changed k))
    × ((k : ℕ) → k < n
    → touched_of (blurred_at any start setup change k) setup ≡ touched_of (at_step begun other changed k) other)

-- the one run stands for the run of another input, but for the content of the output; each step touches the same
pub record IsAnyBut (start : State) (setup other : Setup) (any : ℕ → Bool) (n : ℕ) : Type 0 where
  pub stands : StandsBut (blurred_before any start setup unchanged n) (pre start other [] n)
  pub touched : (k : ℕ) → k < n
      → touched_of (blurred_before any start setup unchanged k) setup ≡ touched_of (pre start other [] k) other

abbrev pub AnyInputBut : List ℕ → List ℕ → Type 0
AnyInputBut input another =
    (image : Image) (start : State) (setup other : Setup) (any : ℕ → Bool) (n : ℕ) → IsStartOf image start
    → AreBytes start.bytes → setup.input ≡ input → other.input ≡ another → DiffersIn any setup other
    → IsEchoFit any start setup unchanged n → IsAnyBut start setup other any n
