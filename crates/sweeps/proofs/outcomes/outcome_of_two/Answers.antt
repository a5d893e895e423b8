use Rattle.std.proofs.Common.{◌≡◌, ◌<◌, ◌≤◌, length, ap, sym, ◌∙◌, subst, arith}
use Rattle.std.proofs.lemmas.Result.{IfOk-weaker}
use Rattle.checkpoints.specs.Effects.{LeadsTo}
use Rattle.checkpoints.specs.Forks.{IsForkFor}
use Rattle.checkpoints.specs.declared.effect.Effect.TheVariants.{After}
use Rattle.scenario.specs.Edits.{row, IsTaken}
use Rattle.scenario.specs.Limits.{most_marks}
use Rattle.scenario.specs.Scenario.{Scenario, IsOutlineOf, run_of, limit_of}
use Rattle.sweeps.specs.Outcomes.{IsOutcome}
use Rattle.sweep_plans.specs.Changes.{glitch_edit}
use Rattle.sweeps.proofs.ChangeSteps.{glitch-taken, marks-more, with-mark}
use Rattle.sweeps.proofs.ForkSteps.{fork-before}
use Rattle.sweeps.proofs.outcomes.outcome_of_two.Goals as goal

pub edit-requires-2 : goal.edit-requires-2
edit-requires-2 c =
    let may = c.requires.may in
    let few : length c.args.scenario.now.marks < most_marks = omega (arith, may.room) in
    let near : c.args.first.step ≤ limit_of c.args.scenario.now = omega (arith, may.forward, may.near) in
    subst (IsTaken c.args.scenario.now) (sym c.edit.ensures)
    (glitch-taken c.args.scenario.now c.args.first.step c.args.first.glitch near few c.requires.right)

pub outcome_of_second-told-requires-clause-forward : goal.outcome_of_second-told-requires-clause-forward
outcome_of_second-told-requires-clause-forward c =
    let before = fork-before c.args.first.step c.args.scenario.now.step (run_of c.args.scenario.now) c.args.fork.now
    c.requires.fork in
    omega (arith, before, c.requires.may.forward)

pub outcome_of_second-told-requires-clause-within : goal.outcome_of_second-told-requires-clause-within
outcome_of_second-told-requires-clause-within c =
    let sc = c.args.scenario.now in
    let after = c.in_ok-edit.ensures.ok ∙ ap (λ e. (row sc e).after) c.edit.ensures in
    subst (λ (s : Scenario). c.args.second.step ≤ s.step) (sym after) c.requires.may.within

pub outcome_of_second-told-requires-clause-room : goal.outcome_of_second-told-requires-clause-room
outcome_of_second-told-requires-clause-room c =
    let sc = c.args.scenario.now in
    let after = c.in_ok-edit.ensures.ok ∙ ap (λ e. (row sc e).after) c.edit.ensures in
    let size = marks-more sc c.args.first.step c.args.first.glitch in
    subst (λ (s : Scenario). length s.marks < most_marks) (sym after) (omega (arith, size, c.requires.may.room))

pub unmark-requires-clause-some : goal.unmark-requires-clause-some
unmark-requires-clause-some c =
    let sc = c.args.scenario.now in
    let after = c.outcome_of_second-told.ensures.same ∙ c.in_ok-edit.ensures.ok
    ∙ ap (λ e. (row sc e).after) c.edit.ensures in
    let few : length c.args.scenario.now.marks < most_marks = omega (arith, c.requires.may.room) in
    subst (λ (s : Scenario). 1 ≤ length s.marks) (sym after) (with-mark sc c.args.first.step c.args.first.glitch few).0

pub unmark-requires-clause-few : goal.unmark-requires-clause-few
unmark-requires-clause-few c =
    let sc = c.args.scenario.now in
    let after = c.outcome_of_second-told.ensures.same ∙ c.in_ok-edit.ensures.ok
    ∙ ap (λ e. (row sc e).after) c.edit.ensures in
    let few : length c.args.scenario.now.marks < most_marks = omega (arith, c.requires.may.room) in
    subst (λ (s : Scenario). length s.marks ≤ most_marks) (sym after)
    (with-mark sc c.args.first.step c.args.first.glitch few).1

pub returns-clause-same : goal.returns-clause-same
returns-clause-same c =
    let sc = c.args.scenario.now in
    c.unmark.ensures sc c.args.first.step c.args.first.glitch (c.outcome_of_second-told.ensures.same
    ∙ c.in_ok-edit.ensures.ok ∙ ap (λ e. (row sc e).after) c.edit.ensures)

pub returns-clause-outcome : goal.returns-clause-outcome
unfolding IsOutcome
returns-clause-outcome c =
    let sc = c.args.scenario.now in
    let may = c.requires.may in
    let edit = glitch_edit c.args.first.step c.args.first.glitch in
    let after : c.edit-2.new.self ≡ (row sc edit).after = c.in_ok-edit.ensures.ok
    ∙ ap (λ e. (row sc e).after) c.edit.ensures in
    let few : length sc.marks < most_marks = omega (arith, may.room) in
    let near : c.args.first.step ≤ limit_of c.args.scenario.now = omega (arith, may.forward, may.near) in
    let leads = c.edits_follow.ensures sc edit (glitch-taken sc c.args.first.step c.args.first.glitch near few
    c.requires.right) in
    IfOk-weaker c.outcome_of_second-told.result _ _
    (λ text told. subst (λ (s : Scenario). IsOutlineOf c.args.with_output
    (row s (glitch_edit c.args.second.step c.args.second.glitch)).after text.items) after
    (told c.args.first.step (run_of sc) (subst (λ (s : Scenario). LeadsTo (After c.args.first.step) (run_of sc)
    (run_of s)) (sym after) leads)
    (subst (λ (s : Scenario). IsForkFor (After c.args.first.step) (run_of sc) s.step c.args.fork.now) (sym after)
    c.requires.fork)))
    c.outcome_of_second-told.ensures.outcome
