use Rattle.std.proofs.Common.{◌-◌, None, Some, length, slice_get, ap, sym, ◌∙◌}
use Rattle.guest_heap.proofs.Rows.{shrunk_grid, last_is}
use Rattle.guest_heap.proofs.table.row.Row.shrink.Goals as goal

pub loop-self-preserved : goal.loop-self-preserved
loop-self-preserved g c =
    shrunk_grid g.P.Part.entries c.loop-self.self _ c.pop.result c.pop.ensures.items
    (last_is c.loop-self.self.parts None c.pop.result
    (ap (λ xs. slice_get xs (length xs - 1)) (sym c.deref.ensures.value) ∙ sym c.in-Some-None.ensures.value
    ∙ ap Some c.in-Some-None.field-0-is) c.pop.ensures.value)
    ∙ c.loop-self.invariant
