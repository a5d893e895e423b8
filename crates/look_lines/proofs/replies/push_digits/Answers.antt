use Rattle.std.proofs.Common.{◌∙◌, ◌++◌, ap, arith, take_all}
use Rattle.std.specs.List.{flat_map}
use Rattle.look_lines.specs.Texts.{digit_text}
use Rattle.look_lines.proofs.replies.push_digits.Goals as goal

pub returns : goal.returns
returns c =
    c.loop-sides.invariant
    ∙ ap (λ table. c.args.out.now.items ++ flat_map digit_text table)
    (take_all c.loop-sides.sides-index c.args.table.now (omega arith))
