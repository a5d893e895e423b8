use Rattle.guest_heap.specs.Rows.{grid_of, AreNoneDownTo}
use Rattle.guest_heap.proofs.table.row.RowPart.last_below.Given as goal

abbrev pub invariant-loop-i : goal.invariant-loop-i
invariant-loop-i g l = AreNoneDownTo (grid_of g.P.Part.entries l.self) g.P.Part.PLACES l.part l.place l.i
