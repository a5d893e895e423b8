use Rattle.sweeps.proofs.ReadSteps.{reads_are_looks}
use Rattle.sweeps.proofs.laws.reads_are_looks.Goals as goal

pub returns : goal.returns
returns c = reads_are_looks
