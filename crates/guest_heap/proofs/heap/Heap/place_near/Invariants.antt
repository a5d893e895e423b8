use Rattle.guest_heap.specs.Heaps.{blocks_of}
use Rattle.guest_heap.specs.Searches.{IsReached}
use Rattle.guest_heap.proofs.heap.Heap.place_near.Given as goal

abbrev pub invariant-loop : goal.invariant-loop
invariant-loop l = IsReached (blocks_of l.self) l.size l.self.redzone l.at
