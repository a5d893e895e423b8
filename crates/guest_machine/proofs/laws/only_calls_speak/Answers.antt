use Rattle.guest_machine.proofs.StreamLaw.{only-calls-speak}
use Rattle.guest_machine.proofs.laws.only_calls_speak.Goals as goal

pub returns : goal.returns
returns c = only-calls-speak
