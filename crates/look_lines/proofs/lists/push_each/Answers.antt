use Rattle.std.proofs.Common.{◌∙◌, ◌++◌, ap, arith, take_all}
use Rattle.std.specs.List.{flat_map}
use Rattle.look_lines.specs.Lists.{spaced}
use Rattle.look_lines.proofs.lists.push_each.Goals as goal

pub returns : goal.returns
returns c =
    c.loop-address.invariant
    ∙ ap (λ addresses. c.args.out.now.items ++ flat_map spaced addresses)
    (take_all c.loop-address.address-index c.args.addresses.now (omega arith))
