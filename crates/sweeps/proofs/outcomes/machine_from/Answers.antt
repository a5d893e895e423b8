use Rattle.sweeps.proofs.ForkSteps.{edited-for}
use Rattle.sweeps.proofs.outcomes.machine_from.Goals as goal

pub returns : goal.returns
returns c last =
    edited-for c.args.effect c.args.fork.now c.args.scenario.now c.setup.result.now c.marks-2.result.now c.step.result
    last _ c.setup.ensures c.marks-2.ensures c.step.ensures (c.in_ok-machine.ensures.shows last)
