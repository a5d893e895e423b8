use Rattle.std.proofs.Common.{◌≡◌, ap, sym, ◌∙◌, subst}
use Rattle.std.proofs.Math.Path.{transport}
use Rattle.std.proofs.lemmas.Result.{IfOk-weaker}
use Rattle.checkpoints.specs.Effects.{LeadsTo}
use Rattle.checkpoints.specs.Forks.{IsForkFor}
use Rattle.scenario.specs.Edits.{row, IsTaken}
use Rattle.scenario.specs.Scenario.{IsOutlineOf, run_of}
use Rattle.sweeps.specs.Outcomes.{IsOutcome, with_second}
use Rattle.sweeps.specs.Standing.{GoesBack}
use Rattle.sweep_plans.specs.Changes.{edit_of}
use Rattle.sweeps.proofs.ChangeSteps.{fits, goes-back, taken}
use Rattle.sweeps.proofs.outcomes.outcome_of_one.Goals as goal

pub edit-requires : goal.edit-requires
edit-requires c = fits c.args.scenario.now c.args.standing c.args.change c.requires.at

pub edit-requires-2 : goal.edit-requires-2
edit-requires-2 c = fits c.args.scenario.now c.args.standing c.args.change c.requires.at

pub edit-requires-3 : goal.edit-requires-3
edit-requires-3 c =
    subst (IsTaken c.args.scenario.now) (sym c.edit-2.ensures)
    (taken c.args.scenario.now c.args.standing c.args.change c.requires.stands c.requires.at)

pub take_back-requires : goal.take_back-requires
take_back-requires c =
    let sc = c.args.scenario.now in
    subst (λ s. GoesBack s c.args.standing)
    (sym (c.in_ok-edit.ensures.ok ∙ ap (λ e. (row sc e).after) c.edit-2.ensures))
    (goes-back sc c.args.standing c.args.change c.requires.stands c.requires.at)

pub returns-clause-outcome : goal.returns-clause-outcome
unfolding IsOutcome
returns-clause-outcome c =
    let sc = c.args.scenario.now in
    let edit = edit_of c.args.change in
    let effect : c.effect-effect.result ≡ (row sc edit).effect = c.effect-effect.ensures.effect
    ∙ ap (λ e. (row sc e).effect) c.edit.ensures in
    let after : c.edit-3.new.self ≡ (row sc edit).after = c.in_ok-edit.ensures.ok
    ∙ ap (λ e. (row sc e).after) c.edit-2.ensures in
    let whole = after ∙ sym (ap (with_second (row sc edit).after) c.requires.one) in
    let leads = c.edits_follow.ensures sc edit (taken sc c.args.standing c.args.change c.requires.stands
    c.requires.at) in
    IfOk-weaker c.outline_from-told.result _ _
    (λ text told last fork. subst (λ s. IsOutlineOf c.args.with_output s text.items) whole
    (told (run_of sc) last (transport (λ i. LeadsTo (sym effect i) (run_of sc) (run_of (sym after i))) leads)
    (subst (λ e. IsForkFor e (run_of sc) last c.args.fork.now) (sym effect) fork))) c.outline_from-told.ensures
