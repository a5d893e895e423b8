use Rattle.std.proofs.Common.{◌+◌, ◌∙◌, ap, arith, sym}
use Rattle.std.proofs.lemmas.List.{length-set}
use Rattle.std.proofs.Math.ListN.{set}
use Rattle.checkpoints.specs.Places.{places_of, own_places}
use Rattle.checkpoints.proofs.PlaceSteps.{machine-count, some-machines, placed-length, put-there, put-others}
use Rattle.checkpoints.proofs.held.Held.put.Goals as goal

pub returns-clause-count : goal.returns-clause-count
unfolding places_of own_places
returns-clause-count c =
    let held = c.args.self.now in
    let ms = held.machines.items in
    let n = held.more in
    let some = some-machines held in
    let count = machine-count held in
    let size = length-set ms c.args.place c.args.machine in
    placed-length (set ms c.args.place c.args.machine) n (omega (arith, size, some)) ∙ ap (λ k. k + n) size
    ∙ sym (placed-length ms n some)

pub returns-clause-there : goal.returns-clause-there
unfolding places_of own_places
returns-clause-there c i d low here =
    let held = c.args.self.now in
    let ms = held.machines.items in
    let n = held.more in
    let some = some-machines held in
    let count = machine-count held in
    put-there ms n c.args.place i c.args.machine d c.requires (omega (arith, low, placed-length ms n some)) here

pub returns-clause-others : goal.returns-clause-others
unfolding places_of own_places
returns-clause-others c i d low other =
    let held = c.args.self.now in
    let ms = held.machines.items in
    let n = held.more in
    let some = some-machines held in
    let count = machine-count held in
    put-others ms n c.args.place i c.args.machine d c.requires (omega (arith, low, placed-length ms n some)) other
