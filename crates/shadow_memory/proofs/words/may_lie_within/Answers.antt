use Rattle.std.proofs.Common.{◌∙◌, ◌+◌, ◌-◌, ◌/◌, ap, slice_index, arith}
use Rattle.shadow_memory.proofs.Ranging.{highest-outside}
use Rattle.shadow_memory.proofs.words.may_lie_within.Goals as goal

pub returns : goal.returns
returns c h =
    let bytes = slice_index c.args.bytes.now in
    highest-outside bytes c.args.low c.args.high c.from-2.result c.from-least.result c.saturating_sub.result
    (omega arith)
    (omega (arith, c.type_inv.bytes 0)) (omega (arith, c.type_inv.bytes 1)) (omega (arith, c.type_inv.bytes 2))
    (omega (arith, c.type_inv.bytes 3))
    c.from-2.ensures c.from-least.ensures (c.saturating_sub.ensures
    ∙ ap (λ size. c.args.high / size + 1 - c.from-least.result) c.from.ensures) h
