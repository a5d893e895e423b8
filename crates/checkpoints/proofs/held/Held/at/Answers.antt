use Rattle.std.proofs.Common.{◌≡◌, ◌-◌, ◌∙◌, ap, arith, get_or, length, sym}
use Rattle.checkpoints.specs.Places.{places_of}
use Rattle.checkpoints.proofs.PlaceSteps.{machine-count, some-machines, placed-length, placed-last, placed-own}
use Rattle.checkpoints.proofs.held.Held.at.Goals as goal

pub returns-then-place-last : goal.returns-then-place-last
unfolding places_of
returns-then-place-last c =
    let held = c.args.self.now in
    let ms = held.machines.items in
    let n = held.more in
    let some = some-machines held in
    let count = machine-count held in
    c.index.ensures
    ∙ sym (placed-own ms n c.args.place c.index.result.now
    (omega (arith, c.if-place-last.true, c.len-last.ensures, count)))

pub returns : goal.returns
unfolding places_of
returns c =
    let held = c.args.self.now in
    let ms = held.machines.items in
    let n = held.more in
    let some = some-machines held in
    let count = machine-count held in
    let d = c.index-2.result.now in
    let long = placed-length ms n some in
    let last : c.len-last.result - 1 ≡ length ms - 1 = omega (arith, c.len-last.ensures, count) in
    c.index-2.ensures ∙ ap (λ k. get_or ms k d) last
    ∙ sym (placed-last ms n c.args.place d some (omega (arith, last, c.if-place-last.false))
    (omega (arith, long, c.requires)))
