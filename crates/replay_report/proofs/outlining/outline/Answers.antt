use Rattle.std.proofs.Common.{ap₂, ◌∙◌, ◌++◌}
use Rattle.replay_report.specs.Outlines.{outline_text, IsOutline}
use Rattle.replay_report.proofs.outlining.outline.Goals as goal

pub returns : goal.returns
unfolding IsOutline
returns c s h =
    let told = outline_text s c.args.image.now c.args.suppressions.now c.args.options.now c.args.with_output in (
      c.in_ok-records.records.items,
      c.in_ok-records.ensures s h,
      c.in_ok-push_outline.ensures s h
          ∙ ap₂ (λ former records. former ++ told records) c.new-text.ensures.items c.deref.ensures.value,
    )
