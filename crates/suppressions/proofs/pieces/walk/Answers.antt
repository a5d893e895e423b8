-- Each turn is a step of the walk.
use Rattle.std.proofs.Common.{◌≡◌, ◌-◌, ◌<◌, ◌≤◌, length, take, drop, take_all, refl, arith, length-drop}
use Rattle.std.proofs.lemmas.Bool.{iff_false}
use Rattle.suppressions.specs.Fitting.{FitsFront}
use Rattle.suppressions.proofs.FittingSteps.{stands_here, stands_within}
use Rattle.suppressions.proofs.FittingWalk.{walk_begins, walk_star, walk_one, walk_back, walk_stuck, walk_goes_on}
use Rattle.suppressions.proofs.FittingWalk.{walk_ends, nothing_fits, last_star, falls_star, falls_one, falls_back}
use Rattle.suppressions.proofs.FittingWalk.{star_before}
use Rattle.suppressions.proofs.pieces.walk.Goals as goal

pub loop-place-init : goal.loop-place-init
loop-place-init g c = walk_begins g.P.Piece.takes c.args.may_go_on c.args.pieces.now c.args.items.now

pub returns-then-at-pieces : goal.returns-then-at-pieces
returns-then-at-pieces g c = (
  λ h. walk_goes_on g.P.Piece.takes c.args.may_go_on c.args.pieces.now c.args.items.now c.loop-place.at
      c.loop-place.place c.loop-place.back (omega arith) c.if-may_go_on.true c.loop-place.invariant,
  λ h. refl,
)

pub loop-place-preserved-then-has_star : goal.loop-place-preserved-then-has_star
loop-place-preserved-then-has_star g c =
    let star = c.has_star.ensures.star c.if-has_star.true in
    walk_star g.P.Piece.takes c.args.may_go_on c.args.pieces.now c.args.items.now star.0 c.loop-place.at
    c.loop-place.place c.loop-place.back star.1 star.2 c.loop-place.invariant

pub loop-place-preserved-then-has_taker : goal.loop-place-preserved-then-has_taker
loop-place-preserved-then-has_taker g c =
    let x = c.index-items-place.result in
    let item = stands_here c.args.items.now c.loop-place.place x c.loop-place-test.true c.index-items-place.is in
    let taker = c.has_taker.ensures.0 c.if-has_taker.true in
    walk_one g.P.Piece.takes c.args.may_go_on c.args.pieces.now c.args.items.now taker.0 x c.loop-place.at
    c.loop-place.place c.loop-place.back taker.1 item
    (c.has_star.ensures.single c.if-has_star.false taker.0 taker.1) taker.2 c.loop-place.invariant

pub loop-place-preserved : goal.loop-place-preserved
loop-place-preserved g c =
    walk_back g.P.Piece.takes c.args.may_go_on c.args.pieces.now c.args.items.now c.loop-place.at c.loop-place.place
    c.in-Some.star c.in-Some.from c.loop-place-test.true
    (nothing_fits g.P.Piece.takes c.args.may_go_on c.args.pieces.now c.args.items.now c.index-items-place.result
    c.loop-place.at c.loop-place.place
    (stands_here c.args.items.now c.loop-place.place c.index-items-place.result c.loop-place-test.true
    c.index-items-place.is)
    c.loop-place.invariant.in_pattern c.else-may_go_on.either (c.has_star.ensures.single c.if-has_star.false)
    (iff_false c.has_taker.ensures c.if-has_taker.false))
    (rw c.in-Some.is at c.loop-place.invariant)

pub returns-in_default : goal.returns-in_default
returns-in_default g c = (
  λ e. absurd (cc),
  λ h. absurd (walk_stuck g.P.Piece.takes c.args.may_go_on c.args.pieces.now c.args.items.now c.loop-place.at
      c.loop-place.place
      (nothing_fits g.P.Piece.takes c.args.may_go_on c.args.pieces.now c.args.items.now c.index-items-place.result
      c.loop-place.at c.loop-place.place
      (stands_here c.args.items.now c.loop-place.place c.index-items-place.result c.loop-place-test.true
      c.index-items-place.is)
      c.loop-place.invariant.in_pattern c.else-may_go_on.either (c.has_star.ensures.single c.if-has_star.false)
      (iff_false c.has_taker.ensures c.if-has_taker.false))
      (rw c.in_default.is at c.loop-place.invariant) h),
)

pub returns : goal.returns
returns g c =
    let p = c.args.pieces.now in
    let at = c.loop-place.at in
    let rest : take (length p - at) (drop at p) ≡ drop at p = take_all (length p - at) (drop at p)
    (omega (arith, length-drop at p)) in
    let ends = walk_ends g.P.Piece.takes c.args.may_go_on p c.args.items.now at c.loop-place.place c.loop-place.back
    c.loop-place-test.false c.loop-place.invariant in
    (λ h. ends.0 (rw rest at (c.are_stars.ensures.0 h)), λ h. c.are_stars.ensures.1 (rw rest (ends.1 h)))

pub loop-place-smaller-then-has_star : goal.loop-place-smaller-then-has_star
loop-place-smaller-then-has_star g c =
    let star = c.has_star.ensures.star c.if-has_star.true in
    falls_star (length c.args.items.now) (length c.args.pieces.now) c.loop-place.at c.loop-place.place
    (last_star c.loop-place.back) (stands_within c.args.pieces.now c.loop-place.at star.0 star.1)
    (star_before (FitsFront g.P.Piece.takes c.args.may_go_on) c.args.pieces.now c.args.items.now c.loop-place.at
    c.loop-place.place c.loop-place.back c.loop-place.invariant.resume)

pub loop-place-smaller-then-has_taker : goal.loop-place-smaller-then-has_taker
loop-place-smaller-then-has_taker g c =
    let taker = c.has_taker.ensures.0 c.if-has_taker.true in
    falls_one _ (length c.args.pieces.now) c.loop-place.at
    (stands_within c.args.pieces.now c.loop-place.at taker.0 taker.1)

pub loop-place-smaller : goal.loop-place-smaller
loop-place-smaller g c =
    let before = star_before (FitsFront g.P.Piece.takes c.args.may_go_on) c.args.pieces.now c.args.items.now
    c.loop-place.at c.loop-place.place c.loop-place.back c.loop-place.invariant.resume in
    let from : c.in-Some.from ≤ c.loop-place.place = rw c.in-Some.is at before in
    let within : c.in-Some.from < length c.args.items.now = omega arith in
    let n = length c.args.items.now in
    let m = length c.args.pieces.now in
    rw c.in-Some.is (falls_back n m c.loop-place.at c.in-Some.star c.in-Some.from within)

pub overflow_add-at : goal.overflow_add-at
overflow_add-at g c =
    let star = c.has_star.ensures.star c.if-has_star.true in
    let within = stands_within c.args.pieces.now c.loop-place.at star.0 star.1 in
    omega arith

pub overflow_add-at-then-has_taker : goal.overflow_add-at-then-has_taker
overflow_add-at-then-has_taker g c =
    let taker = c.has_taker.ensures.0 c.if-has_taker.true in
    let within = stands_within c.args.pieces.now c.loop-place.at taker.0 taker.1 in
    omega arith
