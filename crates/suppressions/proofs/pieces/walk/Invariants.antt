-- The walk is right so far, and falls with each step back, and with each piece of the pattern between two of them.
use Rattle.std.proofs.Common.{length, ◌-◌, ◌+◌, ◌*◌}
use Rattle.suppressions.specs.Fitting.{FitsFront}
use Rattle.suppressions.proofs.FittingWalk.{Walk, last_star}
use Rattle.suppressions.proofs.pieces.walk.Given as goal

abbrev pub invariant-loop-place : goal.invariant-loop-place
invariant-loop-place g l = Walk (FitsFront g.P.Piece.takes l.may_go_on) l.pieces l.items l.at l.place l.back

abbrev pub decreases-loop-place : goal.decreases-loop-place
decreases-loop-place g l = (length l.items - last_star l.back) * (length l.pieces + 1) + (length l.pieces - l.at)
