use Rattle.pruning.proofs.StepLaw.{keeps-registers}
use Rattle.pruning.proofs.laws.keeps_registers.Goals as goal

pub returns : goal.returns
returns c = keeps-registers
