use Rattle.sweep_plans.proofs.PartSteps.{whole-of-parts}
use Rattle.sweep_plans.proofs.laws.parts_make_the_whole.Goals as goal

pub returns : goal.returns
returns c = whole-of-parts
