use Rattle.std.proofs.Common.{◌<◌, length, ap, sym, ◌∙◌, ◌++◌, append-nil, take_all, arith}
use Rattle.std.specs.List.{flat_map}
use Rattle.error_events.specs.Shown.{groups_of}
use Rattle.replay_report.specs.Outlines.{error_outline}
use Rattle.report_lines.proofs.Joins.{flat_got}
use Rattle.replay_report.proofs.outlining.push_errors.Goals as goal

pub loop-index-init : goal.loop-index-init
loop-index-init c = sym (append-nil c.args.out.now.items)

pub loop-index-preserved : goal.loop-index-preserved
loop-index-preserved c =
    let within : c.loop-index.index < length (groups_of c.args.groups.now) = omega arith in
    flat_got (error_outline c.args.image.now c.args.callers) (groups_of c.args.groups.now) c.loop-index.index _ _ _
    within c.loop-index.invariant (λ g is. c.in_ok-push_error_at.ensures g (c.get.ensures ∙ is))

pub returns : goal.returns
returns c =
    c.loop-index.invariant
    ∙ ap (λ groups. c.args.out.now.items ++ flat_map (error_outline c.args.image.now c.args.callers) groups)
    (take_all c.loop-index.index (groups_of c.args.groups.now) (omega arith))
