use Rattle.std.proofs.Common.{◌<◌, arith}
use Rattle.std.proofs.lemmas.Bool.{eqb-true}
use Rattle.shadow_memory.proofs.Storing.{at-most-four, four-full, two-full}
use Rattle.shadow_memory.proofs.words.has_all_bits.Goals as goal

pub returns-in-2 : goal.returns-in-2
returns-in-2 c is i below =
    let few : i < 2 = omega (arith, below, c.in-2.is) in
    two-full c.args.number i (eqb-true _ _ is) few

pub returns-in_default : goal.returns-in_default
returns-in_default c is i below =
    let most = at-most-four c.args.n c.requires in
    let few : i < 4 = omega (arith, below, most) in
    four-full c.args.number i (eqb-true _ _ is) few
