use Rattle.std.proofs.Common.{◌∙◌, arith}
use Rattle.std.proofs.Math.Nat.{div-le_self}
use Rattle.guest_heap.specs.Entries.{entry_of}
use Rattle.guest_heap.specs.Rows.{grid_of, entries_along}
use Rattle.guest_heap.specs.Sizes.{row_sized}
use Rattle.guest_heap.proofs.FreeSteps.{on_any}
use Rattle.guest_heap.proofs.Numbering.{written_by}
use Rattle.guest_heap.proofs.Rows.{same_along}
use Rattle.guest_heap.proofs.table.row.RowPart.put.Goals as goal

pub grow-requires : goal.grow-requires
grow-requires g c =
    let few = (row_sized g.P.Part.PLACES g.met.P.Part.sized).few in
    omega (arith, c.requires, few, div-le_self c.args.at c.PLACES-each.result)

pub returns-in_err-grow-clause-err : goal.returns-in_err-grow-clause-err
returns-in_err-grow-clause-err g c =
    (on_any _ (same_along g.P.Part.entries g.P.Part.PLACES _ _ c.grow.ensures.same)).1

pub returns-in_err-write-clause-err : goal.returns-in_err-write-clause-err
returns-in_err-write-clause-err g c =
    (on_any _ (same_along g.P.Part.entries g.P.Part.PLACES _ _ (c.in_err-write.ensures.err ∙ c.grow.ensures.same))).1

pub returns-clause-ok : goal.returns-clause-ok
unfolding entries_along
returns-clause-ok g c =
    written_by (grid_of g.P.Part.entries c.args.self.now) g.P.Part.PLACES g.met.P.Part.sized c.args.at
    c.PLACES-each.result 0 c.PLACES-each.ensures (grid_of g.P.Part.entries c.grow.new.self)
    (grid_of g.P.Part.entries c.write.new.self) (grid_of g.P.Part.entries c.shrink.new.self) (entry_of c.args.entry)
    c.shrink.ensures c.in_ok-write.ensures.ok c.grow.ensures.same
