use Rattle.guest_machine.proofs.SetupLaw.{keeps-front}
use Rattle.guest_machine.proofs.laws.keeps_front.Goals as goal

pub returns : goal.returns
returns c = keeps-front
