use Rattle.guest_machine.proofs.MarkLaw.{alters-as-marked}
use Rattle.guest_machine.proofs.laws.alters_as_marked.Goals as goal

pub returns : goal.returns
returns c = alters-as-marked
