use Rattle.std.proofs.Common.{ap₂, ◌∙◌, ◌++◌}
use Rattle.replay_report.specs.Report.{report_text, IsReport}
use Rattle.replay_report.proofs.rendering.report_of.Goals as goal

pub returns : goal.returns
unfolding IsReport
returns c s h =
    let told = report_text s c.args.view.now.image.now c.args.view.now.suppressions.now c.args.view.now.options.now
    c.args.moment.now.step c.args.moment.now.input_len in (
      c.in_ok-records.records.items,
      c.in_ok-records.ensures s h,
      c.in_ok-push_report.ensures s h
          ∙ ap₂ (λ former records. former ++ told records) c.new-text.ensures.items c.deref.ensures.value,
    )
