use Rattle.guest_machine.proofs.MarkLaw.{runs-as-marked}
use Rattle.guest_machine.proofs.laws.runs_as_marked.Goals as goal

pub returns : goal.returns
returns c = runs-as-marked
