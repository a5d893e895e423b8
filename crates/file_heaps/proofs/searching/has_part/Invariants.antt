use Rattle.std.proofs.Common.{◌≡◌, length}
use Rattle.file_heaps.specs.Names.{has_part}
use Rattle.file_heaps.proofs.searching.has_part.Given as goal

abbrev pub invariant-loop-rest : goal.invariant-loop-rest
invariant-loop-rest l = has_part l.part l.rest ≡ has_part l.part l.name

abbrev pub decreases-loop-rest : goal.decreases-loop-rest
decreases-loop-rest l = length l.rest
