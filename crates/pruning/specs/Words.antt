-- What a word of memory is to one step: the step keeps it, or may look at it.
use Rattle.std.specs.Prelude.{ℕ, ◌+◌, ◌%◌, ◌==◌, ◌&&◌, ◌||◌, not, Bool, if◌then◌else◌}
use Rattle.guest_machine.specs.State.{State}
use Rattle.guest_machine.specs.Exec.{touches}
use Rattle.guest_machine.specs.declared.setup.Setup.{Setup}
use Rattle.pruning.specs.declared.passing.Passing.{Passing}
use Rattle.pruning.specs.declared.passing.Passing.TheVariants.{Looks, Keeps}

-- does the step of a state fetch, read or write one of the four bytes from an address on?
abbrev pub touches_word : State → Setup → ℕ → Bool
touches_word s setup addr =
    (touches s setup addr || touches s setup (addr + 1)) || (touches s setup (addr + 2) || touches s setup (addr + 3))

-- a step keeps a word at a multiple of 4 if it touches none of its bytes. Any other counts as one that it looks at
unfoldable pub passing_word : State → Setup → ℕ → Passing
passing_word s setup addr = if addr % 4 == 0 && not (touches_word s setup addr) then Keeps else Looks
