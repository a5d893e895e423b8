use Rattle.report_lines.proofs.Joins.{shown_joined}
use Rattle.report_lines.proofs.lines.push_shown_summary.Goals as goal

pub returns : goal.returns
returns c groups is =
    shown_joined _ _ _ _ _ _ c.args.sum groups is c.in_ok-push_text.ensures c.in_ok-push_number.ensures
    c.in_ok-push_text-2.ensures c.in_ok-push_number-2.ensures c.in_ok-push_text-3.ensures
