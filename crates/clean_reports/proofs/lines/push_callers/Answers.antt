use Rattle.std.proofs.Common.{ap, ◌∙◌, ◌++◌, take_all, arith}
use Rattle.std.specs.Prelude.{codes}
use Rattle.std.specs.List.{flat_map}
use Rattle.clean_reports.specs.Lines.{caller_text}
use Rattle.clean_reports.proofs.lines.push_callers.Goals as goal

pub returns : goal.returns
returns c =
    c.loop-addr.invariant
    ∙ ap (λ callers. c.args.out.now.items ++ flat_map (caller_text (codes ", by ") c.args.image.now) callers)
    (take_all c.loop-addr.addr-index c.args.callers.now (omega arith))
