use Rattle.std.proofs.lemmas.Result.{on_ok_weaker}
use Rattle.error_events.specs.Shown.{groups_of}
use Rattle.replay_report.proofs.ReportSteps.{three_joined}
use Rattle.replay_report.proofs.rendering.push_findings.Goals as goal

pub returns : goal.returns
returns c =
    on_ok_weaker c.push_summary.result
    (λ more hidden is. three_joined _ _ _ _ _ _ _ c.in_ok-push_groups.ensures c.in_ok-push_leaks.ensures
    (more (groups_of c.args.shown.now) hidden c.error_sum.ensures is)) c.push_summary.ensures
