use Rattle.std.proofs.Common.{◌∙◌}
use Rattle.std.proofs.lemmas.Result.{IfOk-weaker}
use Rattle.replay_report.proofs.Filters.{shown-are}
use Rattle.replay_report.proofs.filtering.told_groups.Goals as goal

pub returns : goal.returns
returns c =
    IfOk-weaker c.shown_groups.result _ _
    (λ shown made s h. shown-are c.kept_by_test.ensures c.args.suppressions.now c.args.image.now c.args.callers _ _ _
    s.events (c.groups-groups.ensures s h)
    (c.deref.ensures.value ∙ c.in_ok-suppressed.ensures) (made s.events (c.groups-groups.ensures s h)))
    c.shown_groups.ensures
