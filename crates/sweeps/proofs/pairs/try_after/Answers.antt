use Rattle.std.proofs.Common.{◌≡◌, ◌+◌, ◌<◌, ◌≤◌, length, ap, sym, ◌∙◌, subst, arith}
use Rattle.std.proofs.lemmas.Result.{on_ok_weaker}
use Rattle.checkpoints.specs.Effects.{LeadsTo}
use Rattle.checkpoints.specs.Forks.{IsForkFor}
use Rattle.checkpoints.specs.declared.effect.Effect.TheVariants.{After}
use Rattle.scenario.specs.Edits.{row, IsTaken}
use Rattle.scenario.specs.Limits.{most_marks}
use Rattle.scenario.specs.Scenario.{Scenario, run_of, limit_of}
use Rattle.sweep_plans.specs.Changes.{glitch_edit}
use Rattle.sweep_plans.specs.declared.change.Glitch.TheVariants.{Skip}
use Rattle.sweeps.specs.Landmarks.{NoneFrom}
use Rattle.sweeps.proofs.ChangeSteps.{glitch-taken}
use Rattle.sweeps.proofs.ForkSteps.{fork-before}
use Rattle.sweeps.proofs.LandmarkSteps.{quiet-after}
use Rattle.sweeps.proofs.pairs.try_after.Goals as goal

pub edit-requires-2 : goal.edit-requires-2
edit-requires-2 c =
    let size = ap length c.requires.unmarked in
    let few : length c.args.scenario.now.marks < most_marks = omega (arith, size) in
    let near : c.args.first.step ≤ limit_of c.args.scenario.now = omega (arith, c.requires.below, c.requires.near) in
    subst (IsTaken c.args.scenario.now) (sym c.edit.ensures)
    (glitch-taken c.args.scenario.now c.args.first.step Skip near few tt)

pub try_until-met-requires-clause-before : goal.try_until-met-requires-clause-before
try_until-met-requires-clause-before c =
    fork-before c.args.first.step c.args.scenario.now.step (run_of c.args.scenario.now) c.args.fork.now c.requires.fork

pub try_until-met-requires-clause-led : goal.try_until-met-requires-clause-led
try_until-met-requires-clause-led c =
    let sc = c.args.scenario.now in
    let edit = glitch_edit c.args.first.step Skip in
    let size = ap length c.requires.unmarked in
    let few : length sc.marks < most_marks = omega (arith, size) in
    let near : c.args.first.step ≤ limit_of c.args.scenario.now = omega (arith, c.requires.below, c.requires.near) in
    let after : c.edit-2.new.self ≡ (row sc edit).after = c.in_ok-edit.ensures.ok
    ∙ ap (λ e. (row sc e).after) c.edit.ensures in
    let leads = c.edits_follow.ensures sc edit (glitch-taken sc c.args.first.step Skip near few tt) in (
      run_of sc,
      subst (λ (s : Scenario). LeadsTo (After c.args.first.step) (run_of sc) (run_of s)) (sym after) leads,
      subst (λ (s : Scenario). IsForkFor (After c.args.first.step) (run_of sc) s.step c.args.fork.now) (sym after)
          c.requires.fork,
    )

pub try_until-met-requires-clause-quiet : goal.try_until-met-requires-clause-quiet
try_until-met-requires-clause-quiet c =
    let sc = c.args.scenario.now in
    let after : c.edit-2.new.self ≡ (row sc (glitch_edit c.args.first.step Skip)).after = c.in_ok-edit.ensures.ok
    ∙ ap (λ e. (row sc e).after) c.edit.ensures in
    subst (λ (s : Scenario). NoneFrom (c.args.first.step + 1) s.marks) (sym after)
    (quiet-after sc c.args.first.step Skip c.requires.unmarked)

pub returns-clause-same : goal.returns-clause-same
returns-clause-same c =
    let sc = c.args.scenario.now in
    c.unmark.ensures sc c.args.first.step Skip (c.try_until-met.ensures.same ∙ c.in_ok-edit.ensures.ok
    ∙ ap (λ e. (row sc e).after) c.edit.ensures)

pub returns-clause-met : goal.returns-clause-met
returns-clause-met c =
    let sc = c.args.scenario.now in
    on_ok_weaker c.try_until-met.result (λ met. met sc (c.in_ok-edit.ensures.ok
    ∙ ap (λ e. (row sc e).after) c.edit.ensures) c.requires.steps) c.try_until-met.ensures.met
