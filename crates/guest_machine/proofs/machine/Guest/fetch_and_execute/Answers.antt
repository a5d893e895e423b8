use Rattle.guest_machine.specs.Shows.{bytes_of, core_of}
use Rattle.guest_machine.proofs.Fetching.{at_code, at_cut}
use Rattle.guest_machine.proofs.machine.Guest.fetch_and_execute.Goals as goal

pub touched_at-requires-clause-even : goal.touched_at-requires-clause-even
touched_at-requires-clause-even c =
    at_cut (core_of c.args.self.now) (bytes_of c.args.self.now) c.in-First.ensures.0

pub touched_at-requires-in-Whole-clause-even : goal.touched_at-requires-in-Whole-clause-even
touched_at-requires-in-Whole-clause-even c =
    at_code (core_of c.args.self.now) (bytes_of c.args.self.now) c.in-Whole.code c.in-Whole.ensures.0
