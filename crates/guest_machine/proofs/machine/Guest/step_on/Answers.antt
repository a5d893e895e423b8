use Rattle.guest_machine.proofs.Showing.{holds_exec, touched_exec}
use Rattle.guest_machine.proofs.machine.Guest.step_on.Goals as goal

pub returns-clause-holds : goal.returns-clause-holds
returns-clause-holds c s h =
    holds_exec c.groups_grow.ensures.several c.args.self.now c.step_once.new.self c.args.setup.now
    c.in_ok-touched.ensures.does s h

pub returns-clause-touched : goal.returns-clause-touched
returns-clause-touched c s h =
    touched_exec c.args.self.now c.args.setup.now c.in_ok-touched.touched c.in_ok-touched.ensures.touched s h
