-- Runs in which undefined and inaccessible values change between steps.
use Rattle.std.specs.Prelude.{◌≡◌, ℕ, zero, suc, ◌^◌, ◌<◌, List, [], All, if◌then◌else◌}
use Rattle.guest_elf.specs.declared.image.Image.{Image}
use Rattle.run_values.specs.declared.alteration.Alteration.{Alteration}
use Rattle.guest_machine.specs.State.{State}
use Rattle.guest_machine.specs.Run.{after_marks, start_state}
use Rattle.guest_machine.specs.Exec.{exec}
use Rattle.guest_machine.specs.declared.setup.Setup.{Setup}
use Rattle.clean_reports.specs.Agreement.{StatesAgree}

-- a state from which runs of a program begin, whatever its bytes are: a session may have written words into it
pub record IsStartOf (image : Image) (start : State) : Type 0 where
  pub core : start.core ≡ (start_state image).core
  pub events : start.events ≡ []

-- the input of a run has bytes, as each input of a program
abbrev pub HasBytes : Setup → Type 0
HasBytes setup = All (λ byte. byte < 2 ^ 8) setup.input

-- The states before each of n steps, and after them, are those of a disturbed run. It begins at any state that agrees
-- with the start, and after each step any value that is undefined or inaccessible may change: garbage at power-on, in a
-- fresh block, in a new stack frame, in freed memory.
pub record IsDisturbed (start : State) (setup : Setup) (marks : List Alteration) (n : ℕ) (states : ℕ
    → State) : Type 0 where
  pub first : StatesAgree start (states 0)
  pub next : (k : ℕ) → k < n → StatesAgree (exec (after_marks k marks (states k)) setup) (states (suc k))

-- a state whose inaccessible bytes hold noise
unfoldable pub noisy : State → (ℕ → ℕ) → State
noisy s noise = record s { bytes = λ a. if (s.core.shadow a).accessible then s.bytes a else noise a }

-- the state before step k of a run in which the noise changes before each step
unfoldable pub noisy_run : State → Setup → List Alteration → (ℕ → ℕ → ℕ) → ℕ → State
noisy_run start setup marks noise zero = noisy start (noise 0)
noisy_run start setup marks noise (suc k) =
    noisy (exec (after_marks k marks (noisy_run start setup marks noise k)) setup) (noise (suc k))
