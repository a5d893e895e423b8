use Rattle.std.proofs.lemmas.Result.{on_ok_weaker}
use Rattle.report_lines.proofs.Joins.{running_joined}
use Rattle.report_lines.proofs.lines.push_running.Goals as goal

pub returns : goal.returns
returns c =
    on_ok_weaker c.push_text-2.result (running_joined _ _ _ _ c.args.pc c.in_ok-push_text.ensures
    c.in_ok-push_address.ensures) c.push_text-2.ensures
