use Rattle.std.proofs.Common.{◌-◌, ◌/◌, ◌%◌, arith}
use Rattle.std.proofs.Math.Nat.{div-le_self}
use Rattle.guest_heap.specs.Rows.{grid_of, entries_along}
use Rattle.guest_heap.specs.Sizes.{row_sized}
use Rattle.guest_heap.proofs.GridSteps.{down_begins, found_down}
use Rattle.guest_heap.proofs.Rows.{past_grid, part_in}
use Rattle.guest_heap.proofs.Numbering.{last_some_by, last_none_by, number_small, end_within}
use Rattle.guest_heap.proofs.table.row.RowPart.last_below.Goals as goal

pub overflow_add-part : goal.overflow_add-part
overflow_add-part g c =
    let few = (row_sized g.P.Part.PLACES g.met.P.Part.sized).few in
    omega (arith, c.requires, few, div-le_self c.args.at c.PLACES-each.result)

pub overflow_mul-result : goal.overflow_mul-result
overflow_mul-result g c =
    let fits = number_small g.P.Part.PLACES c.PLACES-each.result c.args.at g.met.P.Part.sized c.requires
    (c.loop-i.i - 1) 0 (omega arith) g.met.P.Part.sized.some in
    omega (arith, fits)

pub overflow_add-result : goal.overflow_add-result
overflow_add-result g c =
    let v = c.PLACES-each.result in
    let below = end_within g.P.Part.PLACES v (c.args.at / v) c.args.at (c.loop-i.i - 1) c.end_in.result c.in-Some.found
    g.met.P.Part.sized.some c.PLACES-each.ensures c.end_in.ensures c.in-Some.ensures.below in
    let fits = number_small g.P.Part.PLACES c.PLACES-each.result c.args.at g.met.P.Part.sized c.requires
    (c.loop-i.i - 1) c.in-Some.found (omega arith) below in
    omega (arith, fits)

pub loop-i-init : goal.loop-i-init
loop-i-init g c =
    let row = c.args.self.now in
    down_begins (grid_of g.P.Part.entries row) g.P.Part.PLACES (c.args.at / c.PLACES-each.result)
    (c.args.at % c.PLACES-each.result) c.min-i.result
    (λ k above below. past_grid g.P.Part.entries row k (omega arith))

pub returns-in-Some : goal.returns-in-Some
unfolding entries_along
returns-in-Some g c =
    let row = c.args.self.now in
    let grid = grid_of g.P.Part.entries row in
    let w = g.P.Part.PLACES in
    let v = c.PLACES-each.result in
    let part = c.args.at / v in
    let place = c.args.at % v in
    let i = c.loop-i.i - 1 in
    last_some_by grid w g.met.P.Part.sized c.args.at v 0 c.PLACES-each.ensures i c.in-Some.found
    (found_down grid w part place _ i c.end_in.result c.in-Some.found
    (part_in g.P.Part.entries row i c.index.result.now c.index.ensures (omega arith)) c.loop-i.i v
    (omega arith) (omega arith) c.loop-i.invariant c.PLACES-each.ensures c.end_in.ensures c.in-Some.ensures)

pub returns : goal.returns
unfolding entries_along
returns g c =
    last_none_by (grid_of g.P.Part.entries c.args.self.now) g.P.Part.PLACES g.met.P.Part.sized c.args.at
    c.PLACES-each.result 0 c.PLACES-each.ensures (λ k above below. c.loop-i.invariant k (omega arith) below)
