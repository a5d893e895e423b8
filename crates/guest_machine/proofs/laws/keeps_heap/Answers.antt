use Rattle.guest_machine.proofs.SetupLaw.{keeps-heap}
use Rattle.guest_machine.proofs.laws.keeps_heap.Goals as goal

pub returns : goal.returns
returns c = keeps-heap
