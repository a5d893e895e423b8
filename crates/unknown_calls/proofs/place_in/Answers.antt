use Rattle.std.proofs.Common.{arith}
use Rattle.unknown_calls.proofs.Counting.{place-end, place-here, place-past}
use Rattle.unknown_calls.proofs.place_in.Goals as goal

pub returns-then-calls-place : goal.returns-then-calls-place
returns-then-calls-place c =
    let here = place-here c.args.calls.now c.args.number c.loop-place.place _ c.loop-place-test.true
    c.if-calls-place.true in
    omega (arith, c.loop-place.invariant.past, here)

pub loop-place-preserved : goal.loop-place-preserved
loop-place-preserved c =
    let past = place-past c.args.calls.now c.args.number c.loop-place.place _ c.loop-place-test.true
    c.if-calls-place.false in
    record {
      within = omega (arith, c.loop-place-test.true);
      past = omega (arith, c.loop-place.invariant.past, past);
    }

pub returns : goal.returns
returns c =
    let end = place-end c.args.calls.now c.args.number c.loop-place.place c.loop-place-test.false in
    omega (arith, c.loop-place.invariant.past, end)
