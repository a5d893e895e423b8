use Rattle.std.proofs.Common.{◌/◌, ◌%◌, ap, sym, arith}
use Rattle.guest_heap.specs.Rows.{entries_along}
use Rattle.guest_heap.proofs.Rows.{past_grid}
use Rattle.guest_heap.proofs.table.row.RowPart.get.Goals as goal

pub returns : goal.returns
unfolding entries_along
returns g c =
    let row = c.args.self.now in
    let w = g.P.Part.PLACES in
    let each = ap (λ x. c.args.at / x) c.PLACES-each.ensures in
    sym (ap (λ f. f (c.args.at % w)) (past_grid g.P.Part.entries row (c.args.at / w) (omega (arith, each))))
