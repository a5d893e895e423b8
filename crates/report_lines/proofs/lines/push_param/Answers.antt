use Rattle.report_lines.proofs.Joins.{param_joined}
use Rattle.report_lines.proofs.lines.push_param.Goals as goal

pub returns : goal.returns
returns c =
    param_joined _ _ _ _ _ _ _ _ c.text.ensures c.fault_text.ensures c.in_ok-push_text.ensures
    c.in_ok-push_text-2.ensures c.in_ok-push_text-3.ensures
