use Rattle.guest_machine.proofs.Halted.{stays-halted}
use Rattle.guest_machine.proofs.laws.stays_halted.Goals as goal

pub returns : goal.returns
returns c = stays-halted
