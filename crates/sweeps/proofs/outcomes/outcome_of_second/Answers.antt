use Rattle.std.proofs.lemmas.Result.{IfOk-weaker}
use Rattle.sweeps.proofs.ForkSteps.{fork-later}
use Rattle.sweeps.proofs.outcomes.outcome_of_second.Goals as goal

pub returns-clause-outcome : goal.returns-clause-outcome
returns-clause-outcome c =
    let sc = c.args.scenario.now in
    IfOk-weaker c.outcome_of_one.result _ _
    (λ text told s one leads fork. told sc.step
    (fork-later sc c.setup.result.now c.marks.result.now s one c.args.fork.now c.in_ok-next.next c.args.later
    c.setup.ensures c.marks.ensures c.requires.within (c.in_ok-next.ensures.fork s one) leads fork))
    c.outcome_of_one.ensures.outcome
