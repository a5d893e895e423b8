use Rattle.std.proofs.Common.{subst, sym}
use Rattle.shadow_memory.specs.Changes.{IsWidth}
use Rattle.guest_machine.proofs.Fetching.{unit_width}
use Rattle.guest_machine.proofs.machine.Guest.fetch.Goals as goal

pub load-requires : goal.load-requires
load-requires c = subst IsWidth (sym c.unit.ensures) (unit_width c.args.self.now.isa)
