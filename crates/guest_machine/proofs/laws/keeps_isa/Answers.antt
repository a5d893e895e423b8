use Rattle.guest_machine.proofs.IsaLaw.{keeps-isa}
use Rattle.guest_machine.proofs.laws.keeps_isa.Goals as goal

pub returns : goal.returns
returns c = keeps-isa
