use Rattle.std.proofs.Common.{subst, sym}
use Rattle.shadow_memory.specs.Changes.{IsWidth}
use Rattle.guest_machine.proofs.Fetching.{unit_width}
use Rattle.guest_machine.proofs.machine.Guest.halt.Goals as goal

pub load-fault-requires : goal.load-fault-requires
load-fault-requires c = subst IsWidth (sym c.unit.ensures) (unit_width c.args.self.now.isa)
