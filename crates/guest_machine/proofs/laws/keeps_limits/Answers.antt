use Rattle.guest_machine.proofs.IsaLaw.{keeps-limits}
use Rattle.guest_machine.proofs.laws.keeps_limits.Goals as goal

pub returns : goal.returns
returns c = keeps-limits
