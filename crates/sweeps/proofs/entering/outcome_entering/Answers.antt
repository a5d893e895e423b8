use Rattle.std.proofs.Common.{◌≡◌, ◌+◌, ◌*◌, ◌||◌, ap, sym, ◌∙◌, subst, get_or}
use Rattle.std.proofs.Math.Path.{transport}
use Rattle.std.proofs.lemmas.Result.{IfOk-weaker, on_ok_weaker}
use Rattle.checkpoints.specs.Effects.{IsOfSetup, LeadsTo}
use Rattle.checkpoints.specs.Forks.{IsForkFor}
use Rattle.checkpoints.specs.Sides.{has_side, sided}
use Rattle.scenario.specs.Edits.{row, IsTaken}
use Rattle.scenario.specs.Scenario.{IsOutlineOf, first_state, run_of}
use Rattle.sweeps.specs.Covered.{apart_in, run_covers}
use Rattle.sweeps.specs.Outcomes.{IsOutcome, with_second}
use Rattle.sweeps.specs.Standing.{GoesBack}
use Rattle.sweep_plans.specs.Changes.{edit_of}
use Rattle.sweeps.proofs.ChangeSteps.{fits, goes-back, taken}
use Rattle.sweeps.proofs.CoverSteps.{byte-effect, byte-lone, covers-one}
use Rattle.sweeps.proofs.entering.outcome_entering.Goals as goal

pub edit-requires : goal.edit-requires
edit-requires c = fits c.args.scenario.now c.args.standing c.args.change c.requires.at

pub edit-requires-2 : goal.edit-requires-2
edit-requires-2 c = fits c.args.scenario.now c.args.standing c.args.change c.requires.at

pub edit-requires-3 : goal.edit-requires-3
edit-requires-3 c =
    subst (IsTaken c.args.scenario.now) (sym c.edit-2.ensures)
    (taken c.args.scenario.now c.args.standing c.args.change c.requires.stands c.requires.at)

pub outline_entering-told-requires-clause-of : goal.outline_entering-told-requires-clause-of
outline_entering-told-requires-clause-of c =
    let sc = c.args.scenario.now in
    subst IsOfSetup (sym (c.effect-effect.ensures.effect ∙ ap (λ e. (row sc e).effect) c.edit.ensures))
    (byte-effect sc c.args.standing c.args.change c.requires.byte c.requires.at)

pub take_back-requires : goal.take_back-requires
take_back-requires c =
    let sc = c.args.scenario.now in
    subst (λ s. GoesBack s c.args.standing)
    (sym (c.in_ok-edit.ensures.ok ∙ ap (λ e. (row sc e).after) c.edit-2.ensures))
    (goes-back sc c.args.standing c.args.change c.requires.stands c.requires.at)

pub returns-clause-outcome : goal.returns-clause-outcome
unfolding IsOutcome
returns-clause-outcome c =
    let sc = c.args.scenario.now in
    let edit = edit_of c.args.change in
    let effect : c.effect-effect.result ≡ (row sc edit).effect = c.effect-effect.ensures.effect
    ∙ ap (λ e. (row sc e).effect) c.edit.ensures in
    let after : c.edit-3.new.self ≡ (row sc edit).after = c.in_ok-edit.ensures.ok
    ∙ ap (λ e. (row sc e).after) c.edit-2.ensures in
    let lone = byte-lone sc c.args.standing c.args.change c.requires.byte c.requires.at in
    let whole = after ∙ sym (ap (with_second (row sc edit).after) lone) in
    let leads = c.edits_follow.ensures sc edit (taken sc c.args.standing c.args.change c.requires.stands
    c.requires.at) in
    IfOk-weaker c.outline_entering-told.result _ _
    (λ text told. subst (λ s. IsOutlineOf c.args.with_output s text.items) whole
    (told (run_of sc) sc.step (transport (λ i. LeadsTo (sym effect i) (run_of sc) (run_of (sym after i))) leads)
    (subst (λ e. IsForkFor e (run_of sc) sc.step c.args.fork.now) (sym effect) c.requires.fork)))
    c.outline_entering-told.ensures.outline

pub returns-clause-covers : goal.returns-clause-covers
returns-clause-covers c =
    let sc = c.args.scenario.now in
    let edit = edit_of c.args.change in
    let old = c.args.table.now.items in
    let new = c.outline_entering-told.new.table.items in
    let effect : c.effect-effect.result ≡ (row sc edit).effect = c.effect-effect.ensures.effect
    ∙ ap (λ e. (row sc e).effect) c.edit.ensures in
    let after : c.edit-3.new.self ≡ (row sc edit).after = c.in_ok-edit.ensures.ok
    ∙ ap (λ e. (row sc e).after) c.edit-2.ensures in
    let lone = byte-lone sc c.args.standing c.args.change c.requires.byte c.requires.at in
    let whole = after ∙ sym (ap (with_second (row sc edit).after) lone) in
    let leads = c.edits_follow.ensures sc edit (taken sc c.args.standing c.args.change c.requires.stands
    c.requires.at) in
    on_ok_weaker c.outline_entering-told.result
    (λ entered. covers-one sc c.args.change c.args.fork.now.step c.args.first old new c.requires.before entered.0
    (λ i on others d less says. subst (λ s. has_side (get_or new i d) on
    ≡ (others || run_covers s (sided (c.args.first + apart_in sc * i) on))) whole
    (entered.1 (run_of sc) (first_state c.edit-3.new.self) sc.step i on others d
    (transport (λ i. LeadsTo (sym effect i) (run_of sc) (run_of (sym after i))) leads)
    (subst (λ e. IsForkFor e (run_of sc) sc.step c.args.fork.now) (sym effect) c.requires.fork) less says)))
    c.outline_entering-told.ensures.entered
