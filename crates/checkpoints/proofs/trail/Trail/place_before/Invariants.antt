use Rattle.std.proofs.Common.{◌≤◌}
use Rattle.checkpoints.proofs.trail.Trail.place_before.Given as goal

abbrev pub invariant-loop-place : goal.invariant-loop-place
invariant-loop-place l = l.place ≤ l.fn.place

abbrev pub decreases-loop-place : goal.decreases-loop-place
decreases-loop-place l = l.place
