use Rattle.guest_machine.specs.Shows.{bytes_of, core_of}
use Rattle.guest_machine.proofs.Fetching.{at_code}
use Rattle.guest_machine.proofs.machine.Guest.step_on_miss.Goals as goal

pub touched_at-requires-clause-even : goal.touched_at-requires-clause-even
touched_at-requires-clause-even c =
    at_code (core_of c.args.self.now) (bytes_of c.args.self.now) _ c.in-Some.ensures.taken
