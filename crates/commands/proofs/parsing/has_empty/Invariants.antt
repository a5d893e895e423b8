-- The fields that are left decide.
use Rattle.std.proofs.Common.{◌≡◌, length}
use Rattle.commands.specs.Commands.{has_empty}
use Rattle.commands.proofs.parsing.has_empty.Given as goal

abbrev pub invariant-loop-field : goal.invariant-loop-field
invariant-loop-field l = has_empty l.fields ≡ has_empty l.fn.fields

abbrev pub decreases-loop-field : goal.decreases-loop-field
decreases-loop-field l = length l.fields
