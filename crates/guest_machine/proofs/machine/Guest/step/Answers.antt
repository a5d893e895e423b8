use Rattle.guest_machine.proofs.Showing.{holds_exec, raised_exec, touched_exec}
use Rattle.guest_machine.proofs.machine.Guest.step.Goals as goal

pub returns-clause-holds : goal.returns-clause-holds
returns-clause-holds c s h =
    holds_exec c.groups_grow.ensures.several c.begin_step.new.self c.step_once.new.self c.args.setup.now
    c.in_ok-touched.ensures.does s (c.begin_step.ensures.holds s h)

pub returns-clause-touched : goal.returns-clause-touched
returns-clause-touched c s h =
    touched_exec c.begin_step.new.self c.args.setup.now c.in_ok-touched.touched c.in_ok-touched.ensures.touched
    s (c.begin_step.ensures.holds s h)

pub returns-clause-raised : goal.returns-clause-raised
returns-clause-raised c s h =
    raised_exec c.begin_step.new.self c.step_once.new.self c.args.setup.now c.in_ok-touched.ensures.does
    c.begin_step.ensures.none s (c.begin_step.ensures.holds s h)
