use Rattle.std.proofs.Common.{◌≡◌, ◌+◌, ◌-◌, subst, arith}
use Rattle.sweep_tables.specs.Swept.{Reached}
use Rattle.exit_status.proofs.EndSteps.{same-error}
use Rattle.sweep_tables.proofs.table.write_places.Goals as goal

pub returns-in_err-write_place-clause-err : goal.returns-in_err-write_place-clause-err
returns-in_err-write_place-clause-err g c =
    same-error c.from_residual.result _ _ c.from_residual.ensures.1 (λ case base is from reached.
    c.in_err-write_place.ensures.err case (c.loop-place.place - c.args.from) (c.args.to - c.args.from) base is
    (omega (arith, from)) (omega arith)
    (c.loop-place.invariant case base is from reached))

pub loop-place-preserved : goal.loop-place-preserved
loop-place-preserved g c case base is from reached =
    let n = c.loop-place.place - c.args.from in
    let on : n + 1 ≡ c.loop-place.place + 1 - c.args.from = omega arith in
    subst (λ k. Reached case k base (g.W.Write.contents c.write_place.new.writer) c.write_place.new.sweep) on
    (c.in_ok-write_place.ensures.ok case n base is (omega (arith, from))
    (c.loop-place.invariant case base is from reached))

pub returns-clause-ok : goal.returns-clause-ok
returns-clause-ok g c case base is from reached =
    let all : c.loop-place.place - c.args.from ≡ c.args.to - c.args.from = omega arith in
    subst (λ k. Reached case k base (g.W.Write.contents c.loop-place.writer) c.loop-place.sweep) all
    (c.loop-place.invariant case base is from reached)
