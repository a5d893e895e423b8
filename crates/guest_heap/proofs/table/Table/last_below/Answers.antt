use Rattle.std.proofs.Common.{ap, sym, subst, ◌∙◌}
use Rattle.guest_heap.specs.Entries.{Entries, entries_at, IsLast}
use Rattle.guest_heap.specs.Tables.{entries_of, entries_in_root}
use Rattle.guest_heap.proofs.table.Table.last_below.Goals as goal

pub returns-in-Some : goal.returns-in-Some
unfolding entries_of entries_in_root entries_at
returns-in-Some c =
    let P : Entries → Type 0 = λ f. IsLast f c.args.at c.last_below.result in
    subst P (ap entries_in_root c.deref.ensures ∙ sym (ap (entries_at entries_in_root) c.in-Some.is))
    c.last_below.ensures
