use Rattle.guest_heap.specs.Entries.{entries_at}
use Rattle.guest_heap.proofs.Clones.{same_slots, slot_clone}
use Rattle.guest_heap.proofs.Rows.{same_along, same_grid, part_by_value}
use Rattle.guest_heap.proofs.table.row.RowClone.clone.Goals as goal

pub returns : goal.returns
returns g c = record {
  cases = same_along g.P.Part.entries g.P.Part.PLACES _ _ (same_grid g.P.Part.entries _ _
      (same_slots slot_clone (λ p q h. h) (λ p h. h) (λ p h. h) (entries_at g.P.Part.entries)
      (part_by_value g.P.Part.entries) _ _ c.in_ok-parts.ensures.cases.0));
}
