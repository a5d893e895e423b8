use Rattle.guest_machine.proofs.Showing.{holds_exec}
use Rattle.guest_machine.proofs.machine.Guest.step_decoded.Goals as goal

pub returns-clause-holds : goal.returns-clause-holds
returns-clause-holds c s h made =
    holds_exec c.groups_grow.ensures.several c.args.self.now c.step_once_decoded.new.self c.args.setup.now
    (c.in_ok-made.ensures.does made) s h
