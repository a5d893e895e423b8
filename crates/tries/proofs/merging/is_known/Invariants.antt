use Rattle.std.proofs.Common.{◌≡◌, true}
use Rattle.tries.specs.Merging.{KnownBelow}
use Rattle.tries.proofs.merging.is_known.Given as goal

abbrev pub invariant-loop-place : goal.invariant-loop-place
invariant-loop-place l = l.known ≡ true → KnownBelow l.seen l.run l.place
