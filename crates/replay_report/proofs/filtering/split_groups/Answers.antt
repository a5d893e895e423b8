use Rattle.std.proofs.Common.{◌∙◌, ap, refl, length}
use Rattle.std.proofs.lemmas.List.{length-map}
use Rattle.report_lines.specs.Lines.{error_sum}
use Rattle.replay_report.proofs.Filters.{hidden-are, shown-are}
use Rattle.replay_report.proofs.filtering.split_groups.Goals as goal

pub hidden_sum-requires : goal.hidden_sum-requires
hidden_sum-requires c = record {
  each = ap (λ x. length x) (c.deref.ensures.value ∙ c.in_ok-hidden.ensures) ∙ length-map _ _;
  some = c.requires;
}

pub shown_groups-requires : goal.shown_groups-requires
shown_groups-requires c = record {
  each = ap (λ x. length x) (c.deref-2.ensures.value ∙ c.in_ok-hidden.ensures) ∙ length-map _ _;
  some = c.requires;
}

pub returns-clause-shown : goal.returns-clause-shown
returns-clause-shown c s h =
    shown-are c.kept_by_test.ensures c.args.suppressions.now c.args.image.now c.args.callers _ _ _ s.events
    (c.groups-groups.ensures s h)
    (c.deref-2.ensures.value ∙ c.in_ok-hidden.ensures)
    (c.in_ok-shown_groups.ensures s.events (c.groups-groups.ensures s h))

pub returns-clause-hidden : goal.returns-clause-hidden
returns-clause-hidden c s h =
    c.in_ok-sum.ensures s.events (c.groups-groups.ensures s h)
    ∙ ap error_sum (hidden-are c.kept_by_test.ensures c.args.suppressions.now c.args.image.now c.args.callers _ _ _
    s.events (c.groups-groups.ensures s h)
    (c.deref.ensures.value ∙ c.in_ok-hidden.ensures) refl)
