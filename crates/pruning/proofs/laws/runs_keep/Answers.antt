use Rattle.pruning.proofs.RunLaw.{runs-keep}
use Rattle.pruning.proofs.laws.runs_keep.Goals as goal

pub returns : goal.returns
returns c = runs-keep
