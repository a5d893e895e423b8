use Rattle.std.proofs.Common.{◌≡◌, ◌+◌, ◌<◌, ◌≤◌, length, ap, sym, ◌∙◌, subst, arith}
use Rattle.std.proofs.lemmas.Result.{IfOk-weaker}
use Rattle.checkpoints.specs.Effects.{LeadsTo}
use Rattle.checkpoints.specs.Forks.{IsForkFor}
use Rattle.checkpoints.specs.declared.effect.Effect.TheVariants.{After}
use Rattle.scenario.specs.Edits.{row, IsTaken}
use Rattle.scenario.specs.Limits.{most_marks}
use Rattle.scenario.specs.Scenario.{Scenario, IsOutlineOf, run_of}
use Rattle.sweep_plans.specs.Changes.{glitch_edit}
use Rattle.sweeps.specs.Landmarks.{NoneFrom}
use Rattle.sweeps.specs.Outcomes.{IsOutcome}
use Rattle.sweeps.proofs.ChangeSteps.{glitch-taken, with-mark}
use Rattle.sweeps.proofs.ForkSteps.{fork-before}
use Rattle.sweeps.proofs.LandmarkSteps.{ends-struck, quiet-after}
use Rattle.sweeps.proofs.endings.outcome_of_glitch.Goals as goal

pub edit-requires-2 : goal.edit-requires-2
edit-requires-2 c =
    let sc = c.args.scenario.now in
    let size = ap length c.requires.unmarked in
    let few : length sc.marks < most_marks = omega (arith, size) in
    subst (IsTaken sc) (sym c.edit.ensures) (glitch-taken sc c.args.step c.args.glitch c.requires.near few
    c.requires.right)

pub outcome_behind-told-requires-clause-before : goal.outcome_behind-told-requires-clause-before
outcome_behind-told-requires-clause-before c =
    let sc = c.args.scenario.now in
    let before = fork-before c.args.step sc.step (run_of sc) c.args.fork.now c.requires.fork in
    omega (arith, before)

pub outcome_behind-told-requires-clause-within : goal.outcome_behind-told-requires-clause-within
outcome_behind-told-requires-clause-within c =
    let sc = c.args.scenario.now in
    let after = c.in_ok-edit.ensures.ok ∙ ap (λ e. (row sc e).after) c.edit.ensures in
    let below = c.requires.below in
    subst (λ (s : Scenario). c.args.step + 1 ≤ s.step) (sym after) (omega (arith, below))

pub outcome_behind-told-requires-clause-quiet : goal.outcome_behind-told-requires-clause-quiet
outcome_behind-told-requires-clause-quiet c =
    let sc = c.args.scenario.now in
    let after = c.in_ok-edit.ensures.ok ∙ ap (λ e. (row sc e).after) c.edit.ensures in
    subst (λ (s : Scenario). NoneFrom (c.args.step + 1) s.marks) (sym after)
    (quiet-after sc c.args.step c.args.glitch c.requires.unmarked)

pub unmark-requires-clause-some : goal.unmark-requires-clause-some
unmark-requires-clause-some c =
    let sc = c.args.scenario.now in
    let after = c.in_ok-edit.ensures.ok ∙ ap (λ e. (row sc e).after) c.edit.ensures in
    let size = ap length c.requires.unmarked in
    let few : length sc.marks < most_marks = omega (arith, size) in
    subst (λ (s : Scenario). 1 ≤ length s.marks) (sym after) (with-mark sc c.args.step c.args.glitch few).0

pub unmark-requires-clause-few : goal.unmark-requires-clause-few
unmark-requires-clause-few c =
    let sc = c.args.scenario.now in
    let after = c.in_ok-edit.ensures.ok ∙ ap (λ e. (row sc e).after) c.edit.ensures in
    let size = ap length c.requires.unmarked in
    let few : length sc.marks < most_marks = omega (arith, size) in
    subst (λ (s : Scenario). length s.marks ≤ most_marks) (sym after) (with-mark sc c.args.step c.args.glitch few).1

pub returns-clause-same : goal.returns-clause-same
returns-clause-same c =
    let sc = c.args.scenario.now in
    c.unmark.ensures sc c.args.step c.args.glitch (c.in_ok-edit.ensures.ok ∙ ap (λ e. (row sc e).after) c.edit.ensures)

pub returns-clause-outcome : goal.returns-clause-outcome
unfolding IsOutcome
returns-clause-outcome c =
    let sc = c.args.scenario.now in
    let edit = glitch_edit c.args.step c.args.glitch in
    let now = c.edit-2.new.self in
    let after : now ≡ (row sc edit).after = c.in_ok-edit.ensures.ok ∙ ap (λ e. (row sc e).after) c.edit.ensures in
    let size = ap length c.requires.unmarked in
    let few : length sc.marks < most_marks = omega (arith, size) in
    let leads = c.edits_follow.ensures sc edit (glitch-taken sc c.args.step c.args.glitch c.requires.near few
    c.requires.right) in
    IfOk-weaker c.outcome_behind-told.result _ _
    (λ outcome told ends. subst (λ (s : Scenario). IsOutlineOf c.args.settings.with_output s outcome) after
    (told c.args.step (run_of sc)
    (subst (λ (s : Scenario). LeadsTo (After c.args.step) (run_of sc) (run_of s)) (sym after) leads)
    (subst (λ (s : Scenario). IsForkFor (After c.args.step) (run_of sc) s.step c.args.fork.now) (sym after)
    c.requires.fork)
    (ends-struck c.args.settings.with_output sc now c.args.step c.args.glitch c.args.ends.now after ends)))
    c.outcome_behind-told.ensures
