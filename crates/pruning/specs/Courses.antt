-- Machines of one run, some steps apart, and what the steps between them touch.
use Rattle.std.specs.Prelude.{◌≡◌, ℕ, suc, ◌+◌, ◌*◌, ◌<◌, List, Some, slice_get, []}
use Rattle.guest_machine.specs.Run.{pre}
use Rattle.guest_machine.specs.Shows.{Shows}
use Rattle.guest_machine.specs.State.{State}
use Rattle.guest_machine.specs.declared.machine.Machine.{Machine}
use Rattle.guest_machine.specs.declared.setup.Setup.{Setup}
use Rattle.pruning.specs.Touches.{TellsStep}

-- from each state that a machine shows, another shows the state n steps later; and a list tells what these steps touch,
-- which are numbered from one on
abbrev pub LeadsOn : List ℕ → Setup → ℕ → ℕ → Machine → Machine → Type 0
LeadsOn keys setup from n one next =
    (s : State) → Shows one s
    → Shows next (pre s setup [] n) × ((j : ℕ) → j < n → TellsStep keys setup (pre s setup [] j) (from + j))

-- each machine leads on to the next one, that number of steps later
abbrev pub IsCourse : List ℕ → Setup → ℕ → List Machine → Type 0
IsCourse keys setup apart machines =
    (i : ℕ) (one next : Machine) → slice_get machines i ≡ Some one → slice_get machines (suc i) ≡ Some next
    → LeadsOn keys setup (apart * i) apart one next
