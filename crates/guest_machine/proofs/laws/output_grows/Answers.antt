use Rattle.guest_machine.proofs.StreamLaw.{output-grows}
use Rattle.guest_machine.proofs.laws.output_grows.Goals as goal

pub returns : goal.returns
returns c = output-grows
