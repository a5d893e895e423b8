use Rattle.report_lines.proofs.Joins.{near_back_joined, numbered}
use Rattle.report_lines.proofs.lines.push_near_back.Goals as goal

pub returns : goal.returns
returns c =
    near_back_joined _ _ _ _ _ _ c.args.block.now c.state_text.ensures c.in_ok-push_text.ensures
    (numbered _ _ _ _ c.from.ensures c.in_ok-push_number.ensures)
    c.in_ok-push_text-2.ensures c.in_ok-push_text-3.ensures
