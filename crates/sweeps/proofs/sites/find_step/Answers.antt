use Rattle.std.proofs.Common.{ap, sym, ◌∙◌, subst, arith}
use Rattle.guest_machine.specs.Shows.{Shows}
use Rattle.scenario.specs.Scenario.{Scenario}
use Rattle.sweeps.specs.Standing.{standing_step, state_before}
use Rattle.sweeps.proofs.ChangeSteps.{no-step, step-continues}
use Rattle.sweeps.proofs.sites.find_step.Goals as goal

pub returns-then-step-clause-found : goal.returns-then-step-clause-found
returns-then-step-clause-found c =
    no-step c.args.run.now.scenario c.args.code c.args.step
    (let last = c.step.ensures in let test = c.if-step.true in omega (arith, last, test))

pub standing_step-requires-clause-shows : goal.standing_step-requires-clause-shows
standing_step-requires-clause-shows c =
    subst (λ (s : Scenario). Shows c.in_ok-fork.fork.machine (state_before s c.args.step))
    (sym c.step_fork.ensures.same)
    (subst (λ k. Shows c.in_ok-fork.fork.machine (state_before c.args.run.now.scenario k)) c.in_ok-fork.ensures.step
    c.in_ok-fork.ensures.fork.shows)

pub returns-clause-found : goal.returns-clause-found
returns-clause-found c =
    let is = ap (λ (s : Scenario). standing_step s c.args.code c.args.step) (sym c.step_fork.ensures.same)
    ∙ sym c.standing_step.ensures ∙ c.in-Some.is in (
      is,
      step-continues c.args.run.now.scenario c.args.code c.args.step c.in-Some.standing c.in_ok-fork.fork is
          c.in_ok-fork.ensures.fork,
    )
