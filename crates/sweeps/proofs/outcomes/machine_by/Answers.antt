use Rattle.sweeps.proofs.LandmarkSteps.{goes-behind}
use Rattle.sweeps.proofs.outcomes.machine_by.Goals as goal

pub returns : goal.returns
returns c last one start leads is =
    goes-behind c.args.effect one start c.args.fork.now c.args.scenario.now c.setup-setup.result.now c.marks.result.now
    c.step.result last _ _ c.setup-setup.ensures c.marks.ensures c.step.ensures c.requires.before c.requires.quiet
    (c.in_ok-begun.ensures.shows last) c.in_ok-machine.ensures leads is
