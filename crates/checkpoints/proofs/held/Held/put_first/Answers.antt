use Rattle.std.proofs.Common.{arith}
use Rattle.checkpoints.specs.Places.{places_of}
use Rattle.checkpoints.proofs.PlaceSteps.{machine-count, some-machines, placed-first}
use Rattle.checkpoints.proofs.held.Held.put_first.Goals as goal

pub returns : goal.returns
unfolding places_of
returns c =
    let held = c.args.self.now in
    let ms = held.machines.items in
    let n = held.more in
    let some = some-machines held in
    let count = machine-count held in
    placed-first ms n c.args.machine (λ more. omega (arith, held.apart more, count)) some
