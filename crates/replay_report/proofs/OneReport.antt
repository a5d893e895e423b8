-- A state has one report and one outline, since it has one list of records.
use Rattle.std.proofs.Common.{ap, sym, ◌∙◌}
use Rattle.leak_search.specs.Laws.{RecordsAreOne}
use Rattle.replay_report.specs.Report.{report_text, IsReport}
use Rattle.replay_report.specs.Outlines.{outline_text, IsOutline}
use Rattle.replay_report.specs.Laws.{OutlineIsOne, ReportIsOne}

pub one_report : RecordsAreOne → ReportIsOne
unfolding IsReport
one_report law s image rules options step input_len xs ys g h =
    g.2 ∙ ap (report_text s image rules options step input_len) (law s g.0 h.0 g.1 h.1) ∙ sym h.2

pub one_outline : RecordsAreOne → OutlineIsOne
unfolding IsOutline
one_outline law s image rules options with_output xs ys g h =
    g.2 ∙ ap (outline_text s image rules options with_output) (law s g.0 h.0 g.1 h.1) ∙ sym h.2
