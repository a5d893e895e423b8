use Rattle.guest_machine.proofs.SetupLaw.{keeps-end}
use Rattle.guest_machine.proofs.laws.keeps_end.Goals as goal

pub returns : goal.returns
returns c = keeps-end
