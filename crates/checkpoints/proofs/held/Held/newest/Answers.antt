use Rattle.std.proofs.Common.{◌≡◌, ◌-◌, ◌∙◌, ap, arith, get_or, length, sym}
use Rattle.checkpoints.specs.Places.{places_of}
use Rattle.checkpoints.proofs.PlaceSteps.{machine-count, some-machines, placed, placed-length, placed-last}
use Rattle.checkpoints.proofs.held.Held.newest.Goals as goal

pub returns : goal.returns
unfolding places_of
returns c =
    let held = c.args.self.now in
    let ms = held.machines.items in
    let n = held.more in
    let some = some-machines held in
    let count = machine-count held in
    let d = c.index.result.now in
    let long = placed-length ms n some in
    let last : c.len.result - 1 ≡ length ms - 1 = omega (arith, c.len.ensures, count) in
    c.index.ensures ∙ ap (λ k. get_or ms k d) last
    ∙ sym (placed-last ms n (length (placed ms n) - 1) d some (omega (arith, long)) (omega (arith, long, some)))
