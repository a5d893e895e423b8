use Rattle.guest_heap.specs.Rows.{grid_of, AreNoneUpTo}
use Rattle.guest_heap.proofs.table.row.RowPart.next_from.Given as goal

abbrev pub invariant-loop-i : goal.invariant-loop-i
invariant-loop-i g l = AreNoneUpTo (grid_of g.P.Part.entries l.self) g.P.Part.PLACES l.part l.place l.i
