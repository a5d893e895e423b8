use Rattle.std.proofs.Common.{◌-◌, ◌/◌, sym, arith}
use Rattle.checkpoints.specs.Searches.{Hits}
use Rattle.checkpoints.specs.Work.{floor}
use Rattle.checkpoints.specs.Trails.{spacing_of}
use Rattle.checkpoints.proofs.SpacingSteps.{at-place, place-low, up}
use Rattle.std.proofs.Math.Nat.{mul_comm}
use Rattle.checkpoints.proofs.SearchSteps.{last-window, none-window}
use Rattle.checkpoints.proofs.trail.Trail.last_below.Goals as goal

pub returns-then-is_some-clause-last : goal.returns-then-is_some-clause-last
returns-then-is_some-clause-last c start h =
    let inv = c.loop-end.invariant in
    let end = c.loop-end.end in
    last-window (Hits c.args.sought start c.args.setup.now c.args.marks.now)
    c.args.from (floor (spacing_of c.args.self.now) (end - 1)) end c.args.before c.in_ok-found.found
    (sym c.if-is_some.ensures) inv.within (inv.unhit start h) (c.in_ok-found.ensures.last start h)

pub loop-end-preserved : goal.loop-end-preserved
unfolding spacing_of
loop-end-preserved c =
    let inv = c.loop-end.invariant in
    let end = c.loop-end.end in
    let s = c.args.self.now.spacing in
    let turned = mul_comm ((end - 1) / s) s in
    let low = at-place s (end - 1) in
    let not-below = up s (c.args.from / s) ((end - 1) / s) (place-low s c.args.from (end - 1) c.args.self.now.apart
    (omega (arith, c.loop-end-test.true))) in
    let some = c.loop-end-test.true in
    record {
      within = omega (arith, inv.within, turned, low);
      unhit = λ start h j from up high.
          none-window (Hits c.args.sought start c.args.setup.now c.args.marks.now)
          c.args.from (floor (spacing_of c.args.self.now) (end - 1)) end c.args.before c.in_ok-found.found
          (sym c.if-is_some.ensures) (inv.unhit start h) (c.in_ok-found.ensures.last start h) j from
          (omega (arith, turned, up)) high;
      price = omega (arith, inv.within, inv.price, c.in_ok-found.ensures.price, turned, low, some);
      made = omega (arith, inv.made, some, turned, not-below, at-place s c.args.from);
      metered = c.in_ok-found.ensures.metered;
    }

pub loop-end-smaller : goal.loop-end-smaller
loop-end-smaller c =
    let end = c.loop-end.end in
    let s = c.args.self.now.spacing in
    omega (arith, mul_comm ((end - 1) / s) s, at-place s (end - 1), c.loop-end-test.true)

pub last_in-requires-clause-held : goal.last_in-requires-clause-held
unfolding spacing_of
last_in-requires-clause-held c =
    let end = c.loop-end.end in
    let s = c.args.self.now.spacing in
    let inv = c.loop-end.invariant in
    let less = up s ((end - 1) / s) (c.args.before / s) (place-low s (end - 1) c.args.before c.args.self.now.apart
    (omega (arith, inv.within))) in
    omega (arith, less, c.requires.held)

pub returns-then-is_some-clause-price : goal.returns-then-is_some-clause-price
unfolding spacing_of
returns-then-is_some-clause-price c =
    let end = c.loop-end.end in
    let s = c.args.self.now.spacing in
    let inv = c.loop-end.invariant in
    let not-below = up s (c.args.from / s) ((end - 1) / s) (place-low s c.args.from (end - 1) c.args.self.now.apart
    (omega (arith, c.loop-end-test.true))) in
    omega (
      arith,
      inv.within,
      inv.price,
      c.in_ok-found.ensures.price,
      not-below,
      at-place s (end - 1),
      c.loop-end-test.true,
    )
