use Rattle.std.proofs.Common.{◌∙◌}
use Rattle.std.proofs.lemmas.Result.{IfOk-weaker}
use Rattle.error_events.proofs.LoopSteps.{read-whole}
use Rattle.error_events.proofs.groups.Groups.regroup.Goals as goal

pub returns : goal.returns
returns c =
    IfOk-weaker c.collected.result _ _
    (λ list made es same. made ∙ read-whole _ ∙ c.in_ok-regrouped.ensures es same) c.collected.ensures
