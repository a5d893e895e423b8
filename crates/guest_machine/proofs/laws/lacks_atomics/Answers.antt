use Rattle.guest_machine.proofs.BaseLaw.{lacks-atomics}
use Rattle.guest_machine.proofs.laws.lacks_atomics.Goals as goal

pub returns : goal.returns
returns c = lacks-atomics
