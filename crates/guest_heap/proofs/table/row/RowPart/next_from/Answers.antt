use Rattle.std.proofs.Common.{◌/◌, ◌%◌, arith}
use Rattle.guest_heap.specs.Rows.{grid_of, entries_along}
use Rattle.guest_heap.proofs.GridSteps.{up_ends, found_up}
use Rattle.guest_heap.proofs.Rows.{past_grid, part_in}
use Rattle.guest_heap.proofs.Numbering.{next_some_by, next_none_by, number_fits}
use Rattle.guest_heap.proofs.table.row.RowPart.next_from.Goals as goal

pub overflow_mul-result : goal.overflow_mul-result
overflow_mul-result g c =
    let fits = number_fits g.P.Part.PLACES c.PLACES-each.result g.met.P.Part.sized c.PLACES-each.ensures c.loop-i.i
    c.in-Some.found (omega arith) c.in-Some.ensures.below in
    omega (arith, fits)

pub overflow_add-result : goal.overflow_add-result
overflow_add-result g c =
    let fits = number_fits g.P.Part.PLACES c.PLACES-each.result g.met.P.Part.sized c.PLACES-each.ensures c.loop-i.i
    c.in-Some.found (omega arith) c.in-Some.ensures.below in
    omega (arith, fits)

pub returns-in-Some : goal.returns-in-Some
unfolding entries_along
returns-in-Some g c =
    let row = c.args.self.now in
    let grid = grid_of g.P.Part.entries row in
    let w = g.P.Part.PLACES in
    let v = c.PLACES-each.result in
    let i = c.loop-i.i in
    next_some_by grid w g.met.P.Part.sized c.args.at v c.parts_of.result c.PLACES-each.ensures i c.in-Some.found
    c.parts_of.ensures
    (found_up grid w (c.args.at / v) (c.args.at % v) _ i c.begin_in.result c.in-Some.found
    (part_in g.P.Part.entries row i c.index.result.now c.index.ensures (omega arith)) c.parts_of.result (omega arith)
    (omega arith) c.loop-i.invariant c.begin_in.ensures c.in-Some.ensures)

pub returns : goal.returns
unfolding entries_along
returns g c =
    let row = c.args.self.now in
    next_none_by _ _ g.met.P.Part.sized c.args.at _ _ c.PLACES-each.ensures c.parts_of.ensures
    (up_ends (grid_of g.P.Part.entries row) g.P.Part.PLACES (c.args.at / c.PLACES-each.result)
    (c.args.at % c.PLACES-each.result) c.loop-i.i c.parts_of.result c.loop-i.invariant
    (λ k above below. past_grid g.P.Part.entries row k (omega arith)))
