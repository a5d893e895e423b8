use Rattle.std.proofs.Common.{◌∙◌}
use Rattle.std.proofs.lemmas.Result.{IfOk-weaker}
use Rattle.error_events.proofs.MergeSteps.{merged-regrouped}
use Rattle.error_events.proofs.groups.Groups.regrouped.Goals as goal

pub returns : goal.returns
returns c =
    IfOk-weaker c.merged.result _ _
    (λ groups made es same. made ∙ merged-regrouped _ _ _ es c.requires.each same) c.merged.ensures
