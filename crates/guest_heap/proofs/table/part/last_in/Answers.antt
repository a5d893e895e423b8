use Rattle.std.proofs.Common.{ap, sym, subst, ◌∙◌}
use Rattle.guest_heap.specs.Entries.{Entries, entries_at, IsLast}
use Rattle.guest_heap.proofs.table.part.last_in.Goals as goal

pub returns-in-Some : goal.returns-in-Some
unfolding entries_at
returns-in-Some g c =
    let P : Entries → Type 0 = λ f. IsLast f c.args.at c.last_below.result in
    subst P (ap g.P.Part.entries c.deref.ensures ∙ sym (ap (entries_at g.P.Part.entries) c.in-Some.is))
    c.last_below.ensures
