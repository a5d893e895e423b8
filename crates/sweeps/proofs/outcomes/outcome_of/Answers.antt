use Rattle.std.proofs.Common.{sym, subst}
use Rattle.std.proofs.lemmas.Result.{IfOk-weaker}
use Rattle.checkpoints.specs.Forks.{IsForkFor}
use Rattle.scenario.specs.Edits.{row}
use Rattle.scenario.specs.Scenario.{run_of}
use Rattle.sweep_plans.specs.Changes.{edit_of}
use Rattle.sweep_plans.specs.declared.change.Change.{Change}
use Rattle.sweeps.specs.Outcomes.{IsOutcome}
use Rattle.sweeps.specs.Standing.{IsAt}
use Rattle.sweeps.proofs.ChangeSteps.{one-edit, two-at}
use Rattle.sweeps.proofs.outcomes.outcome_of.Goals as goal

pub outcome_of_two-requires-clause-fork : goal.outcome_of_two-requires-clause-fork
outcome_of_two-requires-clause-fork c =
    let sc = c.args.scenario.now in
    subst (λ (x : Change). IsForkFor (row sc (edit_of x)).effect (run_of sc) sc.step c.args.fork.now) c.in-Twice.is
    c.requires.fork

pub outcome_of_two-requires-clause-may : goal.outcome_of_two-requires-clause-may
outcome_of_two-requires-clause-may c =
    (two-at c.args.scenario.now c.args.standing c.in-Twice.step c.in-Twice.glitch c.in-Twice.later c.in-Twice.other
    (subst (IsAt c.args.scenario.now c.args.standing) c.in-Twice.is c.requires.at)).2

pub outcome_of_two-requires-clause-right : goal.outcome_of_two-requires-clause-right
outcome_of_two-requires-clause-right c =
    (two-at c.args.scenario.now c.args.standing c.in-Twice.step c.in-Twice.glitch c.in-Twice.later c.in-Twice.other
    (subst (IsAt c.args.scenario.now c.args.standing) c.in-Twice.is c.requires.at)).0

pub outcome_of_two-requires-clause-right_too : goal.outcome_of_two-requires-clause-right_too
outcome_of_two-requires-clause-right_too c =
    (two-at c.args.scenario.now c.args.standing c.in-Twice.step c.in-Twice.glitch c.in-Twice.later c.in-Twice.other
    (subst (IsAt c.args.scenario.now c.args.standing) c.in-Twice.is c.requires.at)).1

pub returns-in-Twice-clause-outcome : goal.returns-in-Twice-clause-outcome
returns-in-Twice-clause-outcome c =
    IfOk-weaker c.outcome_of_two.result _ _
    (λ text told. subst (λ (x : Change). IsOutcome c.args.with_output c.args.scenario.now x text.items)
    (sym c.in-Twice.is) told) c.outcome_of_two.ensures.outcome

pub outcome_of_one-requires-clause-before : goal.outcome_of_one-requires-clause-before
outcome_of_one-requires-clause-before c = c.requires.fork.step.within

pub outcome_of_one-requires-clause-one : goal.outcome_of_one-requires-clause-one
outcome_of_one-requires-clause-one c = one-edit c.args.change c.in_default.not-Twice

pub returns-in_default-clause-outcome : goal.returns-in_default-clause-outcome
returns-in_default-clause-outcome c =
    IfOk-weaker c.outcome_of_one.result _ _ (λ text told. told c.args.scenario.now.step c.requires.fork)
    c.outcome_of_one.ensures.outcome
