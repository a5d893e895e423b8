use Rattle.std.proofs.Common.{ap, sym, subst, ◌∙◌}
use Rattle.guest_heap.specs.Entries.{Entries, entries_at, IsNext}
use Rattle.guest_heap.proofs.table.part.next_in.Goals as goal

pub returns-in-Some : goal.returns-in-Some
unfolding entries_at
returns-in-Some g c =
    let P : Entries → Type 0 = λ f. IsNext f c.args.at g.P.Part.PLACES c.next_from.result in
    subst P (ap g.P.Part.entries c.deref.ensures ∙ sym (ap (entries_at g.P.Part.entries) c.in-Some.is))
    c.next_from.ensures
