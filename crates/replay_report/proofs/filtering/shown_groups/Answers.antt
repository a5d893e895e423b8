use Rattle.std.proofs.Common.{◌≡◌, ◌∙◌, Bool, List, subst}
use Rattle.std.specs.Prelude.{IfOk}
use Rattle.error_events.specs.Groups.{grouped}
use Rattle.error_events.specs.Regrouping.{regrouped}
use Rattle.error_events.specs.Shown.{groups_of}
use Rattle.error_events.specs.declared.event.Event.{Event}
use Rattle.replay_report.proofs.filtering.shown_groups.Goals as goal

pub returns : goal.returns
returns c =
    let P : List Bool → Type 0 = λ keep. IfOk c.regrouped.result (λ shown. (es : List Event)
    → groups_of c.args.all.now ≡ grouped es → groups_of shown ≡ regrouped c.args.callers keep es) in
    subst P (c.deref.ensures.value ∙ c.in_ok-shown.ensures) c.regrouped.ensures
