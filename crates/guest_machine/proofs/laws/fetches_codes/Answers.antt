use Rattle.guest_machine.proofs.FetchLaw.{fetches-codes}
use Rattle.guest_machine.proofs.laws.fetches_codes.Goals as goal

pub returns : goal.returns
returns c = fetches-codes
