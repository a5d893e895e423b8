use Rattle.std.proofs.lemmas.Result.{on_ok_weaker}
use Rattle.report_lines.proofs.Joins.{joined}
use Rattle.report_lines.proofs.lines.push_summary.Goals as goal

pub returns : goal.returns
returns c =
    on_ok_weaker c.push_hidden_summary.result
    (λ more shown hidden is_shown is_hidden. joined _ _ _ _ _ (c.in_ok-push_shown_summary.ensures shown is_shown)
    (more hidden is_hidden)) c.push_hidden_summary.ensures
