use Rattle.std.proofs.Common.{◌<◌, length, ap, ◌∙◌, take_all, min, arith}
use Rattle.std.specs.Prelude.{sum_by}
use Rattle.error_events.specs.Groups.{most}
use Rattle.error_events.specs.Shown.{groups_of}
use Rattle.report_lines.proofs.Joins.{sum_got}
use Rattle.report_lines.proofs.lines.error_total.Goals as goal

pub loop-index-preserved : goal.loop-index-preserved
loop-index-preserved c =
    let within : c.loop-index.index < length (groups_of c.args.groups.now) = omega arith in
    sum_got (groups_of c.args.groups.now) c.loop-index.index _ _ within c.loop-index.invariant
    (λ g is. c.with_errors_of-total.ensures g (c.get.ensures ∙ is))

pub returns : goal.returns
returns c =
    c.loop-index.invariant
    ∙ ap (λ groups. min (sum_by (λ g. g.count) groups) most)
    (take_all c.loop-index.index (groups_of c.args.groups.now) (omega arith))
