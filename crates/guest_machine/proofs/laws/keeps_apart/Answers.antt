use Rattle.guest_machine.proofs.ApartLaw.{keeps-apart}
use Rattle.guest_machine.proofs.laws.keeps_apart.Goals as goal

pub returns : goal.returns
returns c = keeps-apart
