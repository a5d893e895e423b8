-- Each turn takes a star off the pieces.
use Rattle.std.proofs.Common.{◌≡◌, ◌+◌, [], drop, refl}
use Rattle.std.proofs.lemmas.List.{drop_all}
use Rattle.suppressions.proofs.FittingSteps.{stands_here, star_none, rest_none, single_none}
use Rattle.suppressions.proofs.pieces.are_stars.Goals as goal

pub loop-piece-init : goal.loop-piece-init
loop-piece-init g c = record { on = λ h. h; back = λ h. h }

pub returns-then-not-is_star : goal.returns-then-not-is_star
returns-then-not-is_star g c =
    let q = c.piece-item.result in
    let here = stands_here c.args.pieces.now c.loop-piece.piece-index q c.loop-piece-test.true c.piece-item.is in
    let rest = drop (c.loop-piece.piece-index + 1) c.args.pieces.now in (
      λ e. absurd (cc),
      λ h. absurd (single_none g.P.Piece.takes q rest (c.is_star.ensures.single c.if-not-is_star.true)
          (rw here at (c.loop-piece.invariant.on h))),
    )

pub loop-piece-preserved : goal.loop-piece-preserved
loop-piece-preserved g c =
    let q = c.piece-item.result in
    let here = stands_here c.args.pieces.now c.loop-piece.piece-index q c.loop-piece-test.true c.piece-item.is in
    let rest = drop (c.loop-piece.piece-index + 1) c.args.pieces.now in
    record {
      on = λ h. rest_none g.P.Piece.takes q rest (rw here at (c.loop-piece.invariant.on h));
      back =
          λ h. c.loop-piece.invariant.back (rw here
          (star_none g.P.Piece.takes q rest (c.is_star.ensures.star c.if-not-is_star.false) h));
    }

pub returns : goal.returns
returns g c =
    let none : drop c.loop-piece.piece-index c.args.pieces.now
    ≡ [] = drop_all c.loop-piece.piece-index c.args.pieces.now c.loop-piece-test.false in
    (λ h. c.loop-piece.invariant.back (rw none refl), λ h. refl)
