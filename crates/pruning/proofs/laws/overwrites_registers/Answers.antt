use Rattle.pruning.proofs.StepLaw.{overwrites-registers}
use Rattle.pruning.proofs.laws.overwrites_registers.Goals as goal

pub returns : goal.returns
returns c = overwrites-registers
