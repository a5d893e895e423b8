use Rattle.guest_heap.specs.Entries.{AreNone}
use Rattle.guest_heap.specs.Leaves.{entries_in}
use Rattle.guest_heap.proofs.table.leaf.LeafPart.next_from.Given as goal

abbrev pub invariant-loop-i : goal.invariant-loop-i
invariant-loop-i l = AreNone (entries_in l.self) l.at l.i
