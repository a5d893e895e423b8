use Rattle.std.proofs.Common.{◌-◌}
use Rattle.guest_heap.specs.Heaps.{blocks_of}
use Rattle.guest_heap.specs.Gaps.{AreGaps}
use Rattle.guest_heap.specs.Searches.{IsReached}
use Rattle.guest_heap.proofs.heap.Heap.place_in_gaps.Given as goal

abbrev pub invariant-loop-at : goal.invariant-loop-at
invariant-loop-at l = record {
  reached : IsReached (blocks_of l.self) l.size l.self.redzone l.at;
  gaps : AreGaps (blocks_of l.self) l.self.redzone l.gaps;
}

abbrev pub decreases-loop-at : goal.decreases-loop-at
decreases-loop-at l = 17179869184 - l.at
