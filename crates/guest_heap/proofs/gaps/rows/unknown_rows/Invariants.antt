use Rattle.guest_heap.specs.Gaps.{AreUnknown}
use Rattle.guest_heap.proofs.gaps.rows.unknown_rows.Given as goal

abbrev pub invariant-loop-i : goal.invariant-loop-i
invariant-loop-i l = AreUnknown l.rows.items
