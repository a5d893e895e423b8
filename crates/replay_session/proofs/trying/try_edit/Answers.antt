use Rattle.std.proofs.Common.{◌≡◌, ◌≤◌, ◌∙◌, ap, arith, length, refl, rules, subst, sym}
use Rattle.std.proofs.lemmas.Result.{IfOk-weaker}
use Rattle.checkpoints.proofs.KnownSteps.{of-known}
use Rattle.checkpoints.specs.Effects.{IsOfSetup, LeadsTo}
use Rattle.checkpoints.specs.Forks.{IsForkFor}
use Rattle.checkpoints.specs.Sides.{IsSides}
use Rattle.scenario.specs.Edits.{row}
use Rattle.scenario.specs.Limits.{longest_input}
use Rattle.scenario.specs.Scenario.{first_state, run_of}
use Rattle.replay_session.specs.Trying.{IsTried}
use Rattle.replay_session.proofs.TrySteps.{of-setup}
use Rattle.replay_session.proofs.trying.try_edit.Goals as goal

pub run_from_fork-tried-requires-clause-of : goal.run_from_fork-tried-requires-clause-of
run_from_fork-tried-requires-clause-of c =
    subst IsOfSetup (sym c.effect-effect.ensures.effect) (of-setup c.args.scenario.now c.args.edit c.requires.input)

pub give-requires : goal.give-requires
give-requires c =
    let count : length c.in_ok-given.given.items ≡ length c.input.result.now = search rules in
    omega (arith, count, c.input.ensures.short)

pub returns-clause-tried : goal.returns-clause-tried
returns-clause-tried c =
    let sc = c.args.scenario.now in
    let edit = c.args.edit in
    let fork_point = c.requires.fork_point in
    let after : c.edit-2.new.self ≡ (row sc edit).after = c.in_ok-edit.ensures.ok in
    let effect : c.effect-effect.result ≡ (row sc edit).effect = c.effect-effect.ensures.effect in
    let leads : LeadsTo (row sc edit).effect (run_of sc) (run_of (row sc edit).after) =
    c.edits_follow.ensures sc edit c.requires.taken in
    let known : IsSides (first_state sc) sc.setup sc.marks c.args.fork_point.now.fork.step c.args.range
    c.args.fork_point.now.sides.items =
    of-known (first_state sc) sc.setup sc.marks c.args.fork_point.now.fork.step c.args.range
    c.args.fork_point.now.sides.items fork_point.sides in
    let copied : c.in_ok-sides.sides.items ≡ c.args.fork_point.now.sides.items = search rules in
    IfOk-weaker c.run_from_fork-tried.result _ _
    (λ tried told. subst (λ s. IsTried s c.args.range tried) after
    (told (run_of sc) sc.step
    (subst (λ s. LeadsTo c.effect-effect.result (run_of sc) (run_of s)) (sym after)
    (subst (λ e. LeadsTo e (run_of sc) (run_of (row sc edit).after)) (sym effect) leads))
    (subst (λ e. IsForkFor e (run_of sc) sc.step c.args.fork_point.now.fork) (sym effect) fork_point.fork)
    (subst (IsSides (first_state sc) sc.setup sc.marks c.args.fork_point.now.fork.step c.args.range) (sym copied)
    known)))
    c.run_from_fork-tried.ensures
