-- The pieces so far fit no items exactly where those that are left do.
use Rattle.std.proofs.Common.{drop, []}
use Rattle.suppressions.specs.Fitting.{FitsPieces}
use Rattle.suppressions.proofs.pieces.are_stars.Given as goal

abbrev pub invariant-loop-piece : goal.invariant-loop-piece
invariant-loop-piece g l = record {
  on : FitsPieces g.P.Piece.takes l.pieces [] → FitsPieces g.P.Piece.takes (drop l.piece-index l.pieces) [];
  back : FitsPieces g.P.Piece.takes (drop l.piece-index l.pieces) [] → FitsPieces g.P.Piece.takes l.pieces [];
}
