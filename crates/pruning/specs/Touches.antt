-- Which steps of a run touch which words, as a list of numbers.
use Rattle.std.specs.Prelude.{◌≡◌, ℕ, ◌+◌, ◌*◌, ◌/◌, ◌^◌, ◌==◌, Bool, true, List}
use Rattle.std.specs.List.{list_any}
use Rattle.guest_machine.specs.State.{State}
use Rattle.guest_machine.specs.Exec.{touches}
use Rattle.guest_machine.specs.declared.setup.Setup.{Setup}

-- the number of a step that touches a word, which is named by a quarter of its address
abbrev pub touch : ℕ → ℕ → ℕ
touch word step = word * 2 ^ 32 + step

-- does a list tell that a step touches a word?
abbrev pub is_told : List ℕ → ℕ → ℕ → Bool
is_told keys word step = list_any (λ key. key == touch word step) keys

-- a list tells all of another
abbrev pub TellsAll : List ℕ → List ℕ → Type 0
TellsAll keys more = (word step : ℕ) → is_told keys word step ≡ true → is_told more word step ≡ true

-- a list tells of each byte that a step of a state touches, where the step has a number
abbrev pub TellsStep : List ℕ → Setup → State → ℕ → Type 0
TellsStep keys setup s step = (a : ℕ) → touches s setup a ≡ true → is_told keys (a / 4) step ≡ true
