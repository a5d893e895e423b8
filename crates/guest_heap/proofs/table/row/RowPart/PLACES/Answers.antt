use Rattle.std.proofs.Common.{ap, ap₂, ◌*◌, ◌∙◌, ◌≡◌, arith}
use Rattle.guest_heap.specs.Sizes.{places_of, parts_of, row_sized}
use Rattle.guest_heap.proofs.table.row.RowPart.PLACES.Goals as goal

pub overflow_mul-result : goal.overflow_mul-result
unfolding places_of
overflow_mul-result g c =
    let few = (row_sized g.P.Part.PLACES g.met.P.Part.sized).few in
    let same : c.parts_of.result * c.PLACES-2.result ≡ places_of g.P.Part.PLACES =
    ap₂ (λ parts each. parts * each) (c.parts_of.ensures ∙ ap parts_of c.PLACES.ensures) c.PLACES-2.ensures in
    omega (arith, few, same)

pub returns : goal.returns
unfolding places_of
returns g c = ap₂ (λ parts each. parts * each) (c.parts_of.ensures ∙ ap parts_of c.PLACES.ensures) c.PLACES-2.ensures
