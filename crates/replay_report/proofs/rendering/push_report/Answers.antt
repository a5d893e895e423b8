use Rattle.std.proofs.Common.{List, ◌++◌, ap, ◌∙◌}
use Rattle.std.specs.List.{flat_map}
use Rattle.std.proofs.lemmas.Result.{on_ok_weaker}
use Rattle.error_events.specs.declared.event.Group.{Group}
use Rattle.report_lines.proofs.Joins.{joined}
use Rattle.report_lines.specs.Lines.{group_lines, summary_line}
use Rattle.replay_report.specs.Filtering.{hidden_groups}
use Rattle.replay_report.specs.LeakLines.{leak_section}
use Rattle.replay_report.specs.Report.{head_lines, report_text}
use Rattle.replay_report.proofs.ReportSteps.{headed}
use Rattle.replay_report.proofs.rendering.push_report.Goals as goal

pub returns : goal.returns
unfolding report_text
returns c =
    let image = c.args.view.now.image.now in
    let rules = c.args.view.now.suppressions.now in
    let options = c.args.view.now.options.now in
    let leaks = leak_section image rules options c.args.records.now in
    on_ok_weaker c.push_findings.result
    (λ more s h.
    let hidden = hidden_groups rules image options.callers s.events in
    let head = head_lines s c.args.moment.now.step c.args.moment.now.input_len in
    joined c.args.out.now.items _ _ head _ (c.in_ok-push_head.ensures s h)
    (more hidden (c.in_ok-shown.ensures.hidden s h))
    ∙ ap (λ text. c.args.out.now.items ++ text)
    (headed head _ leaks _
    ∙ ap (λ (shown : List Group). head ++ flat_map (group_lines image options.callers) shown ++ leaks
    ++ summary_line shown hidden) (c.in_ok-shown.ensures.shown s h))) c.push_findings.ensures
