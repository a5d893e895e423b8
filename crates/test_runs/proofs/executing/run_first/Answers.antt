use Rattle.std.proofs.Common.{ℕ, arith, inr, subst, sym}
use Rattle.test_runs.specs.Executions.{held, step_of, WroteFront}
use Rattle.test_runs.specs.Executed.{IsFault}
use Rattle.test_runs.proofs.Runs.{fault-is, run-of}
use Rattle.test_runs.proofs.executing.run_first.Goals as goal

pub watch-requires-clause-kept : goal.watch-requires-clause-kept
watch-requires-clause-kept g c k less = absurd (omega (arith, less, c.in-Ok.ensures.first))

pub returns-in-Ok-watch-clause-ok : goal.returns-in-Ok-watch-clause-ok
returns-in-Ok-watch-clause-ok g c =
    run-of c.args.scenario.now c.args.bounds.waits c.args.bounds.limit
    (held (g.O.Write.contents c.args.streams.now.out) (g.E.Write.contents c.args.streams.now.err))
    (held (g.O.Write.contents c.watch.new.streams.out) (g.E.Write.contents c.watch.new.streams.err)) c.in-Ok.execution
    c.in-Ok-watch.watched.0 c.in-Ok-watch.watched.1
    c.in-Ok.ensures.first c.in-Ok-watch.ensures.ok

pub returns-in-Err-clause-err : goal.returns-in-Err-clause-err
returns-in-Err-clause-err g c =
    let sc = c.args.scenario.now in
    let old = held (g.O.Write.contents c.args.streams.now.out) (g.E.Write.contents c.args.streams.now.err) in
    let new = held (g.O.Write.contents c.watch.new.streams.out) (g.E.Write.contents c.watch.new.streams.err) in (
      subst IsFault (sym c.end_of.ensures) (fault-is c.in-Err.fault),
      inr (subst (λ (n : ℕ). WroteFront sc n old new) c.in-Ok.ensures.first c.in-Err.ensures.err),
    )
