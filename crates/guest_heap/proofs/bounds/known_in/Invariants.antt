use Rattle.guest_heap.specs.Bounds.{IsKnown}
use Rattle.guest_heap.proofs.bounds.known_in.Given as goal

abbrev pub invariant-loop-index : goal.invariant-loop-index
invariant-loop-index l = IsKnown l.list l.class.least l.known
