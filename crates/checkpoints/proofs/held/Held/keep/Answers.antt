use Rattle.std.proofs.Common.{◌≡◌, ◌-◌, ◌∙◌, ap, arith, length, sym}
use Rattle.std.proofs.lemmas.List.{take_all}
use Rattle.checkpoints.specs.Places.{places_of}
use Rattle.checkpoints.proofs.PlaceSteps.{machine-count, some-machines, placed, placed-length, placed-kept, placed-cut}
use Rattle.checkpoints.proofs.held.Held.keep.Goals as goal

pub returns-then-kept-own : goal.returns-then-kept-own
unfolding places_of
returns-then-kept-own c =
    let held = c.args.self.now in
    let ms = held.machines.items in
    let n = held.more in
    let some = some-machines held in
    let count = machine-count held in
    let own : c.len-own.result ≡ length ms = c.len-own.ensures ∙ count in
    ap (λ xs. placed xs 0) c.keep_first.ensures
    ∙ sym (placed-cut ms c.args.kept n (omega (arith, own, c.if-kept-own.true)))

pub returns-then-kept-own-2 : goal.returns-then-kept-own-2
unfolding places_of
returns-then-kept-own-2 c =
    let held = c.args.self.now in
    let ms = held.machines.items in
    let n = held.more in
    let some = some-machines held in
    let count = machine-count held in
    let own : c.len-own.result ≡ length ms = c.len-own.ensures ∙ count in
    ap (λ k. placed ms (c.args.kept - k)) own
    ∙ sym (placed-kept ms c.args.kept n (omega (arith, own, c.if-kept-own.false))
    (omega (arith, own, c.if-kept-own-2.true, c.if-kept-own.false)))

pub returns-else-kept-own-2 : goal.returns-else-kept-own-2
unfolding places_of
returns-else-kept-own-2 c =
    let held = c.args.self.now in
    let ms = held.machines.items in
    let n = held.more in
    let some = some-machines held in
    let count = machine-count held in
    let own : c.len-own.result ≡ length ms = c.len-own.ensures ∙ count in
    sym (take_all c.args.kept (placed ms n)
    (omega (arith, own, placed-length ms n some, c.if-kept-own-2.false, c.if-kept-own.false)))
