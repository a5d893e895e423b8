use Rattle.std.proofs.Common.{◌*◌, ◌/◌, ◌<◌, length, arith}
use Rattle.checkpoints.specs.Places.{places_of}
use Rattle.checkpoints.specs.Trails.{machines_of, last_held, spacing_of}
use Rattle.checkpoints.proofs.SpacingSteps.{place-held, at-place}
use Rattle.checkpoints.proofs.TrailSteps.{some-held}
use Rattle.std.proofs.Math.Nat.{mul_comm}
use Rattle.checkpoints.proofs.HeldSteps.{copy-at}
use Rattle.checkpoints.proofs.trail.Trail.fork_at.Goals as goal

pub returns-clause-fork : goal.returns-clause-fork
unfolding machines_of last_held spacing_of
returns-clause-fork c effect last whole is start h =
    let s = c.args.self.now.spacing in
    let place = c.args.step / s in
    let below-last = c.requires in
    let within : place < length (places_of c.args.self.now.held) =
    place-held s c.args.step (length (places_of c.args.self.now.held))
    c.args.self.now.apart (some-held c.args.self.now) (omega (arith, at-place s c.args.step, below-last)) in
    record {
      whole = whole;
      shows =
          c.in_ok-machine.ensures.shows start
          (copy-at s (places_of c.args.self.now.held) c.in_ok-copy.copy place (place * s) start c.args.setup.now
          c.args.marks.now h.held c.in_ok-copy.ensures within (mul_comm place s));
      step = is start h;
    }
