use Rattle.guest_machine.proofs.BaseLaw.{lacks-extensions}
use Rattle.guest_machine.proofs.laws.lacks_extensions.Goals as goal

pub returns : goal.returns
returns c = lacks-extensions
