use Rattle.guest_machine.proofs.IdleLaw.{stays-at-rest}
use Rattle.guest_machine.proofs.laws.stays_at_rest.Goals as goal

pub returns : goal.returns
returns c = stays-at-rest
