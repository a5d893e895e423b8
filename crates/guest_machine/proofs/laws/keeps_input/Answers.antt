use Rattle.guest_machine.proofs.SetupLaw.{keeps-input}
use Rattle.guest_machine.proofs.laws.keeps_input.Goals as goal

pub returns : goal.returns
returns c = keeps-input
