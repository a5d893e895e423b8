use Rattle.std.proofs.Common.{◌≡◌, ◌-◌, ◌+◌, ◌%◌, ◌<◌, ◌≤◌, max}
use Rattle.guest_heap.specs.Heaps.{blocks_of}
use Rattle.guest_heap.specs.States.{AreNoPlaces}
use Rattle.guest_heap.proofs.heap.Heap.look.Given as goal

abbrev pub invariant-loop-at : goal.invariant-loop-at
invariant-loop-at l = record {
  multiple : l.at % 16 ≡ 0;
  above : l.self.begin + l.self.redzone ≤ l.at;
  over : l.from ≤ l.at;
  below : l.at < 17179869184;
  less : l.room < max l.size 1;
  none : AreNoPlaces (blocks_of l.self) (l.room + 1) l.self.redzone l.from l.at;
}

abbrev pub decreases-loop-at : goal.decreases-loop-at
decreases-loop-at l = 17179869184 - l.at
