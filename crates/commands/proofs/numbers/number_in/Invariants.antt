-- The bytes so far are digits, and the value is what they write.
use Rattle.std.proofs.Common.{◌≡◌, true, take}
use Rattle.std.specs.List.{list_all}
use Rattle.std.specs.Str.Parse.{digits_value}
use Rattle.commands.proofs.NumberSteps.{digit_of}
use Rattle.commands.proofs.numbers.number_in.Given as goal

abbrev pub invariant-loop-b : goal.invariant-loop-b
invariant-loop-b l =
    (list_all (digit_of l.base) (take l.b-index l.field) ≡ true)
    × (l.value ≡ digits_value l.base (take l.b-index l.field))
