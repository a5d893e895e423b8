use Rattle.guest_machine.proofs.IsaLaw.{keeps-regions}
use Rattle.guest_machine.proofs.laws.keeps_regions.Goals as goal

pub returns : goal.returns
returns c = keeps-regions
