use Rattle.guest_machine.proofs.SetupLaw.{end-stays}
use Rattle.guest_machine.proofs.laws.end_stays.Goals as goal

pub returns : goal.returns
returns c = end-stays
