use Rattle.scenario.proofs.InputSteps.{alike-ended}
use Rattle.scenario.proofs.edits.input.alike.Goals as goal

pub returns-else-n-other : goal.returns-else-n-other
returns-else-n-other c = alike-ended c.args.one.now c.args.other.now c.loop-n.n c.if-n-other.false c.loop-n.invariant.2
