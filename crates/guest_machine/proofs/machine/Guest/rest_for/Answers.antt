use Rattle.guest_machine.proofs.Showing.{holds-rested}
use Rattle.guest_machine.proofs.machine.Guest.rest_for.Goals as goal

pub returns : goal.returns
returns c s h =
    holds-rested c.args.self.now c.count_rest.new.self c.args.steps c.count_rest.ensures s h
