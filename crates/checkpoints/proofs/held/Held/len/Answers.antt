use Rattle.std.proofs.Common.{arith}
use Rattle.checkpoints.specs.Places.{places_of}
use Rattle.checkpoints.proofs.PlaceSteps.{machine-count, some-machines, placed-length}
use Rattle.checkpoints.proofs.held.Held.len.Goals as goal

pub returns-clause-count : goal.returns-clause-count
unfolding places_of
returns-clause-count c =
    let held = c.args.self.now in
    let ms = held.machines.items in
    let n = held.more in
    let some = some-machines held in
    let count = machine-count held in
    omega (arith, c.len.ensures, count, placed-length ms n some)
