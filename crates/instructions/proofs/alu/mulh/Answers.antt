use Rattle.std.proofs.Common.{◌∙◌, ap₂, arith}
use lib.IntN.{◌*ℤ◌}
use Rattle.std.specs.Int.{w32}
use Rattle.std.proofs.lemmas.Int.{to_z-of_z}
use Rattle.definedness.specs.Operations.{upper_word, mulh_of}
use Rattle.instructions.proofs.Products.{upper_product, abs_few}
use Rattle.instructions.proofs.alu.mulh.Goals as goal

pub returns : goal.returns
unfolding mulh_of
returns c =
    let x = c.cast_signed in
    let y = c.cast_signed-2 in
    let first = c.from.ensures ∙ to_z-of_z w32 x.result (record { sfits = x.type_inv }) in
    let second = c.from-2.ensures ∙ to_z-of_z w32 y.result (record { sfits = y.type_inv }) in
    c.upper_word.ensures
    ∙ upper_product c.from.result c.from-2.result x.result y.result first second x.type_inv (omega (arith, y.type_inv))
    (abs_few y.result y.type_inv)
    ∙ ap₂ (λ m n. upper_word (m *ℤ n)) x.ensures y.ensures
