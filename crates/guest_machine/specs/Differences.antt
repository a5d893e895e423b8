-- States that differ in the bytes of some words.
use Rattle.std.specs.Prelude.{◌≡◌, List, true}
use Rattle.shadow_memory.specs.Differences.{DifferInWords, in_words}
use Rattle.shadow_memory.specs.declared.differences.WordApart.{WordApart}
use Rattle.guest_machine.specs.Laws.{DifferWithin}
use Rattle.guest_machine.specs.State.{State}

-- for each state that the one shows, the other shows a state that differs from it in no more than the bytes of these
-- words; the words have the value `here` in the first of these states, and the value `there` in the second
abbrev pub ShowsButFor : List WordApart → (State → Type 0) → (State → Type 0) → Type 0
ShowsButFor words one other =
    (s : State) → one s
    → (u : State) × other u × DifferWithin (λ a. in_words words a ≡ true) s u × DifferInWords words s.bytes u.bytes
