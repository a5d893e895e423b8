-- The piece at a place is the one that was read there.
use Rattle.std.proofs.Common.{subst, arith}
use Rattle.suppressions.specs.Fitting.{IsSingle}
use Rattle.suppressions.proofs.FittingSteps.{stands_here, stands_within, one_stands}
use Rattle.suppressions.proofs.pieces.has_star.Goals as goal

pub returns-then-at-pieces-clause-star : goal.returns-then-at-pieces-clause-star
returns-then-at-pieces-clause-star g c = λ h. (
  c.index-pieces-at.result,
  stands_here c.args.pieces.now c.args.at c.index-pieces-at.result c.if-at-pieces.true c.index-pieces-at.is,
  c.is_star.ensures.star h,
)

pub returns-then-at-pieces-clause-single : goal.returns-then-at-pieces-clause-single
returns-then-at-pieces-clause-single g c = λ h p there.
    let x = c.index-pieces-at.result in
    let here = stands_here c.args.pieces.now c.args.at x c.if-at-pieces.true c.index-pieces-at.is in
    subst (IsSingle g.P.Piece.takes) (one_stands c.args.pieces.now c.args.at x p here there)
    (c.is_star.ensures.single h)

pub returns-else-at-pieces-clause-single : goal.returns-else-at-pieces-clause-single
returns-else-at-pieces-clause-single g c = λ h p there.
    absurd (let within = stands_within c.args.pieces.now c.args.at p there in omega arith)
