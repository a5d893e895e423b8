use Rattle.std.proofs.Common.{◌≡◌, ◌≤◌, ◌∙◌, arith, length, rules, subst, sym, take}
use Rattle.checkpoints.specs.Effects.{LeadsTo}
use Rattle.checkpoints.specs.Forks.{IsForkFor}
use Rattle.scenario.specs.Edits.{row}
use Rattle.scenario.specs.Scenario.{run_of}
use Rattle.replay_session.specs.Trying.{compares_of}
use Rattle.replay_session.proofs.trying.compare_edit.Goals as goal

pub give-requires : goal.give-requires
give-requires c =
    let count : length c.in_ok-given.given.items ≡ length c.input.result.now = search rules in
    omega (arith, count, c.input.ensures.short)

pub returns-clause-compared : goal.returns-clause-compared
returns-clause-compared c =
    let sc = c.args.scenario.now in
    let edit = c.args.edit in
    let fork = c.args.fork.now in
    let after : c.edit-2.new.self ≡ (row sc edit).after = c.in_ok-edit.ensures.ok in
    let effect : c.effect-effect.result ≡ (row sc edit).effect = c.effect-effect.ensures.effect in
    let leads = c.edits_follow.ensures sc edit c.requires.taken in
    record {
      own = c.in_ok-own.ensures c.requires.fork.shows;
      other = subst (λ s. c.in_ok-other.other.items ≡ take c.args.most (compares_of s fork.step)) after
          (c.in_ok-other.ensures (run_of sc) sc.step
          (subst (λ s. LeadsTo c.effect-effect.result (run_of sc) (run_of s)) (sym after)
          (subst (λ e. LeadsTo e (run_of sc) (run_of (row sc edit).after)) (sym effect) leads))
          (subst (λ e. IsForkFor e (run_of sc) sc.step fork) (sym effect) c.requires.fork));
    }
