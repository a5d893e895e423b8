use Rattle.std.proofs.Common.{◌-◌, ◌*◌, ◌<◌, ◌≤◌, arith}
use Rattle.std.proofs.lemmas.Result.{IfOk-weaker}
use Rattle.checkpoints.specs.Effects.{EffectShows}
use Rattle.checkpoints.specs.Places.{places_of}
use Rattle.checkpoints.specs.Trails.{machines_of, spacing_of}
use Rattle.checkpoints.proofs.SpacingSteps.{up}
use Rattle.std.proofs.Math.Nat.{mul_comm}
use Rattle.checkpoints.proofs.HeldSteps.{copy-at}
use Rattle.checkpoints.proofs.TrailSteps.{held-count, hidden-lower}
use Rattle.checkpoints.proofs.trail.Trail.last_hidden.Goals as goal

pub returns-clause-step : goal.returns-clause-step
unfolding machines_of spacing_of
returns-clause-step c =
    let trail = c.args.self.now in
    let s = trail.spacing in
    let setup = c.args.setup.now in
    let marks = c.args.marks.now in
    let place = c.lesser-place.result in
    let kept = c.held_before-kept.result in
    let some = c.held_before-kept.ensures.some in
    let low : place ≤ kept - 1 = omega arith in
    let within : place < kept = omega arith in
    IfOk-weaker c.hidden_until.result _ _
    (λ step last start h. last start
    (copy-at s (places_of trail.held) c.in_ok-copy.copy place (place * s) start setup marks h.held c.in_ok-copy.ensures
    (omega (arith, within, c.held_before-kept.ensures.within, held-count trail)) (mul_comm place s))
    (hidden-lower (EffectShows c.args.effect start setup marks) (place * s) (s * (kept - 1))
    (omega (arith, mul_comm place s, up s place (kept - 1) low))
    (c.held_before-kept.ensures.last start setup marks h)))
    c.hidden_until.ensures.last
