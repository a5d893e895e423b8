use Rattle.std.proofs.Common.{ap, ◌∙◌}
use Rattle.report_lines.specs.Lines.{error_sum}
use Rattle.replay_report.proofs.filtering.hidden_sum.Goals as goal

pub returns : goal.returns
returns c es same = c.error_sum.ensures ∙ ap error_sum (c.in_ok-groups.ensures es same)
