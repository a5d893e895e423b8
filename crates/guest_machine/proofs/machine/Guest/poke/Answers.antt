use Rattle.guest_machine.proofs.Showing.{holds-poked}
use Rattle.guest_machine.proofs.machine.Guest.poke.Goals as goal

pub returns : goal.returns
returns c =
    holds-poked c.args.self.now _ c.args.addr c.args.code c.in_ok-poke.ensures.bytes c.in_ok-poke.ensures.shadows _
