use Rattle.checkpoints.proofs.TrailSteps.{keeps-lower}
use Rattle.checkpoints.proofs.laws.keeps_lower.Goals as goal

pub returns : goal.returns
returns c = keeps-lower
