use Rattle.sweeps.proofs.OneMet.{steps-are-one}
use Rattle.sweeps.proofs.laws.steps_are_one.Goals as goal

pub returns : goal.returns
returns c = steps-are-one
