use Rattle.std.proofs.Common.{◌∙◌, ap, arith}
use lib.IntN.{pos, ◌*ℤ◌}
use Rattle.std.specs.Int.{w32}
use Rattle.std.proofs.lemmas.Int.{to_z-of_z}
use Rattle.definedness.specs.Operations.{upper_word, mulhsu_of}
use Rattle.instructions.proofs.Products.{upper_product}
use Rattle.instructions.proofs.alu.mulhsu.Goals as goal

pub returns : goal.returns
unfolding mulhsu_of
returns c =
    let x = c.cast_signed in
    let y = c.args.y in
    let first = c.from.ensures ∙ to_z-of_z w32 x.result (record { sfits = x.type_inv }) in
    c.upper_word.ensures
    ∙ upper_product c.from.result c.from-2.result x.result (pos y) first c.from-2.ensures x.type_inv
    (omega (arith, c.ranges.y.fits)) (omega (arith, c.ranges.y.fits))
    ∙ ap (λ n. upper_word (n *ℤ pos y)) x.ensures
