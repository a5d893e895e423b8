use Rattle.guest_heap.specs.Entries.{AreNone}
use Rattle.guest_heap.specs.Leaves.{entries_in}
use Rattle.guest_heap.proofs.table.leaf.LeafPart.last_below.Given as goal

abbrev pub invariant-loop-i : goal.invariant-loop-i
invariant-loop-i l = AreNone (entries_in l.self) l.i l.at
