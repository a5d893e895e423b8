use Rattle.pruning.proofs.RunLaw.{runs-overwrite}
use Rattle.pruning.proofs.laws.runs_overwrite.Goals as goal

pub returns : goal.returns
returns c = runs-overwrite
