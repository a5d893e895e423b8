use Rattle.guest_machine.proofs.IsaLaw.{goes-by-fours}
use Rattle.guest_machine.proofs.laws.goes_by_fours.Goals as goal

pub returns : goal.returns
returns c = goes-by-fours
