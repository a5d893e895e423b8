use Rattle.std.proofs.Common.{◌≡◌, ◌*◌, ◌<◌, ◌∙◌, ap, arith, length, refl}
use Rattle.std.proofs.Math.Nat.{mul-zero}
use Rattle.checkpoints.specs.Places.{places_of}
use Rattle.checkpoints.specs.Trails.{machines_of, spacing_of}
use Rattle.checkpoints.proofs.HeldSteps.{held-at}
use Rattle.checkpoints.proofs.OutputSteps.{none-at-start}
use Rattle.checkpoints.proofs.trail.Trail.place_before.Goals as goal

pub returns-then-output_len-from-clause-before : goal.returns-then-output_len-from-clause-before
unfolding machines_of spacing_of
returns-then-output_len-from-clause-before c start setup marks empty h =
    let place = c.loop-place.place in
    let within : place < length (places_of c.args.self.now.held) = omega (arith, c.requires, c.loop-place.invariant) in
    let shows = held-at c.args.self.now.spacing (places_of c.args.self.now.held) c.at.result.now place
    (c.args.self.now.spacing * place) start setup marks
    h.held c.at.ensures within refl in
    omega (arith, c.output_len.ensures _ shows, c.from.ensures, c.if-output_len-from.true)

pub returns-clause-before : goal.returns-clause-before
unfolding spacing_of
returns-clause-before c start setup marks empty h =
    let first : c.loop-place.place ≡ 0 = omega arith in
    let at = ap (λ k. c.args.self.now.spacing * k) first ∙ mul-zero c.args.self.now.spacing in
    none-at-start start setup marks (c.args.self.now.spacing * c.loop-place.place) c.args.position at empty
