use Rattle.std.proofs.Common.{◌≡◌, ap, sym, ◌∙◌, drop}
use Rattle.std.proofs.lemmas.Bool.Decides.{Decides-eqb}
use Rattle.std.proofs.lemmas.List.{take_rest}
use Rattle.std.proofs.lemmas.Slice.Eq.{slice_eq-Decides}
use Rattle.guest_machine.proofs.input.Input.has_rest_of.Goals as goal

pub returns-in-Some-Some : goal.returns-in-Some-Some
returns-in-Some-Some c equal =
    let here = c.in-Some-Some.ensures.lookup.0.2 in
    let there = c.in-Some-Some.ensures'.lookup.0.2 in
    let position = c.args.position in
    ap (drop position) (sym (c.deref.ensures.value ∙ c.self.view_is)) ∙ sym (here ∙ take_rest _ position)
    ∙ (slice_eq-Decides Decides-eqb _ _ _ c.eq.ensures).0 equal
    ∙ (there ∙ take_rest _ position) ∙ ap (drop position) (c.deref-2.ensures.value ∙ c.other.view_is)
