use Rattle.guest_heap.proofs.Rows.{none_along}
use Rattle.guest_heap.proofs.table.row.RowPart.empty.Goals as goal

pub returns : goal.returns
returns g c = none_along g.P.Part.entries g.P.Part.PLACES _ c.new.ensures.items
