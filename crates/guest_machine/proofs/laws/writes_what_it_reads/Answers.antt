use Rattle.guest_machine.proofs.StreamLaw.{writes-what-it-reads}
use Rattle.guest_machine.proofs.laws.writes_what_it_reads.Goals as goal

pub returns : goal.returns
returns c = writes-what-it-reads
