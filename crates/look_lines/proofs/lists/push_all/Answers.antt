use Rattle.std.proofs.Common.{◌∙◌, ◌++◌, ap, arith, take_all}
use Rattle.std.specs.List.{flat_map}
use Rattle.look_lines.specs.Lists.{happened_line}
use Rattle.look_lines.proofs.lists.push_all.Goals as goal

pub returns : goal.returns
returns c =
    c.loop-happened.invariant
    ∙ ap (λ found. c.args.out.now.items ++ flat_map happened_line found)
    (take_all c.loop-happened.happened-index c.args.found.now (omega arith))
