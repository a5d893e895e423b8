use Rattle.std.proofs.Common.{◌≡◌, ◌+◌, ◌*◌, ◌<◌, ◌∙◌, ap, get_or, subst, sym}
use Rattle.guest_elf.specs.Profiles.{unit}
use Rattle.guest_machine.specs.Run.{pre}
use Rattle.guest_machine.specs.Shows.{Shows}
use Rattle.checkpoints.specs.Entering.{IsApart}
use Rattle.checkpoints.specs.Sides.{RowTells, places, sided}
use Rattle.checkpoints.specs.Trails.{machines_of, spacing_of}
use Rattle.std.proofs.Math.Nat.{mul-zero}
use Rattle.checkpoints.proofs.SideSteps.{apart, tells-none}
use Rattle.checkpoints.proofs.TrailSteps.{some-held}
use Rattle.checkpoints.proofs.trail.Trail.sides.Goals as goal

pub warm_copy-requires : goal.warm_copy-requires
warm_copy-requires c = some-held c.args.self.now

pub rows-requires : goal.rows-requires
rows-requires c = subst IsApart (sym c.unit-apart.ensures) (apart c.isa.result)

pub enter_sides-requires-clause-apart : goal.enter_sides-requires-clause-apart
enter_sides-requires-clause-apart c = subst IsApart (sym c.unit-apart.ensures) (apart c.isa.result)

pub returns : goal.returns
unfolding pre machines_of
returns c start right =
    let setup = c.args.setup.now in
    let marks = c.args.marks.now in
    let first = c.args.range.start in
    let copy = c.in_ok-machine.machine in
    let some = some-held c.args.self.now in
    let shows : Shows copy (pre start setup marks 0) =
    c.in_ok-machine.ensures copy _
    (subst (λ k. Shows (get_or (machines_of c.args.self.now) 0 copy) (pre start setup marks k))
    (mul-zero (spacing_of c.args.self.now)) (right.held 0 copy some)) in
    let far : c.unit-apart.result ≡ unit start.core.isa = c.unit-apart.ensures ∙ ap unit (c.isa.ensures _ shows) in
    record {
      rows =
          c.in_ok-enter_sides.ensures.rows ∙ c.in_ok-table.ensures.rows ∙ c.rows.ensures
          ∙ ap (λ n. places n c.args.range.len) far;
      tells = λ i on d less.
          let within = subst (λ n. i < n) c.in_ok-enter_sides.ensures.rows less in
          subst (λ n. RowTells start setup marks c.args.step (sided (first + n * i) on)
          (get_or c.enter_sides.new.table.items i d)) far
          ((c.in_ok-enter_sides.ensures.extends start shows).tells i on d within
          (tells-none start setup marks (first + c.unit-apart.result * i) on (get_or c.in_ok-table.table.items i d)
          (c.in_ok-table.ensures.once i on d (subst (λ n. i < n) c.in_ok-table.ensures.rows within))
          (c.in_ok-table.ensures.again i on d (subst (λ n. i < n) c.in_ok-table.ensures.rows within))));
    }
