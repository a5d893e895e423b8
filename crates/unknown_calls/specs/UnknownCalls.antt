-- Calls that aren't known, counted by their numbers.
use Rattle.std.specs.Prelude.{◌≡◌, ℕ, zero, suc, ◌+◌, ◌-◌, ◌==◌, ◌&&◌, Bool, true, nat_le, if◌then◌else◌, List, []}
use Rattle.std.specs.Prelude.{◌∷◌, Option}
use Rattle.std.specs.Prelude.{None, Some}
use Rattle.unknown_calls.specs.declared.UnknownCall.{UnknownCall}

-- a number that was called a number of times
abbrev pub called : ℕ → ℕ → UnknownCall
called number times = record { number = number; times = times }

-- one more call of a number: it is counted at the number's place, or added at the end, if there is room for another one
unfoldable pub with_call : ℕ → List UnknownCall → ℕ → List UnknownCall
with_call number [] zero = []
with_call number [] (suc room) = called number 1 ∷ []
with_call number (call ∷ calls) room =
    if call.number == number
    then record call { times = call.times + 1 } ∷ calls
    else call ∷ with_call number calls (room - 1)

-- ten numbers are kept
abbrev pub after_call : List UnknownCall → ℕ → List UnknownCall
after_call calls number = with_call number calls 10

-- after a call, if there is one
abbrev pub after_maybe : List UnknownCall → Option ℕ → List UnknownCall
after_maybe calls None = calls
after_maybe calls (Some number) = after_call calls number

-- does no count exceed n?
unfoldable pub are_within : ℕ → List UnknownCall → Bool
are_within n [] = true
are_within n (call ∷ calls) = nat_le call.times n && are_within n calls

abbrev pub Within : ℕ → List UnknownCall → Type 0
Within n calls = are_within n calls ≡ true

-- the place of a number, or the length of the list
unfoldable pub place_in : List UnknownCall → ℕ → ℕ
place_in [] number = 0
place_in (call ∷ calls) number = if call.number == number then 0 else suc (place_in calls number)
