use Rattle.std.proofs.Common.{◌∙◌, None, subst, sym}
use Rattle.test_runs.specs.Executions.{held, step_of, WroteFront}
use Rattle.scenario.specs.Scenario.{Scenario}
use Rattle.test_runs.specs.Overflows.{IsWatched}
use Rattle.test_runs.proofs.Looks.{Comes, front-leg, leg-then, waits-then}
use Rattle.test_runs.proofs.Stages.{if-err}
use Rattle.test_runs.proofs.watching.watch.Goals as goal

pub returns-in_err-next-clause-err : goal.returns-in_err-next-clause-err
returns-in_err-next-clause-err g c =
    let from = step_of c.args.execution in
    let a = held (g.O.Write.contents c.args.streams.now.out) (g.E.Write.contents c.args.streams.now.err) in
    let b = held (g.O.Write.contents c.loop-ended.streams.out) (g.E.Write.contents c.loop-ended.streams.err) in
    let d = held (g.O.Write.contents c.run_leg.new.streams.out) (g.E.Write.contents c.run_leg.new.streams.err) in
    let front = front-leg c.loop-ended.scenario c.args.bounds.waits from a b d c.loop-ended.execution
    c.loop-ended.invariant.comes c.in_err-next.ensures.err in
    if-err c.from_residual.result (λ fault. WroteFront c.args.scenario.now from a d)
    (λ fault. subst (λ (s : Scenario). WroteFront s from a d) c.loop-ended.invariant.same front)

pub returns-then-not-goes_on-clause-ok : goal.returns-then-not-goes_on-clause-ok
returns-then-not-goes_on-clause-ok g c =
    let from = step_of c.args.execution in
    let waits = c.args.bounds.waits in
    let limit = c.args.bounds.limit in
    let e = c.in_ok-next.next in
    let a = held (g.O.Write.contents c.args.streams.now.out) (g.E.Write.contents c.args.streams.now.err) in
    let b = held (g.O.Write.contents c.loop-ended.streams.out) (g.E.Write.contents c.loop-ended.streams.err) in
    let d = held (g.O.Write.contents c.run_leg.new.streams.out) (g.E.Write.contents c.run_leg.new.streams.err) in
    subst (λ (s : Scenario). IsWatched s waits limit from a d e None) c.loop-ended.invariant.same
    (waits-then c.loop-ended.scenario waits limit from a b d c.loop-ended.execution e c.in_ok-next.goes_on
    c.loop-ended.invariant.comes c.in_ok-next.ensures.ok c.if-not-goes_on.true)

pub loop-ended-preserved : goal.loop-ended-preserved
loop-ended-preserved g c =
    let from = step_of c.args.execution in
    let waits = c.args.bounds.waits in
    let e = c.in_ok-next.next in
    let a = held (g.O.Write.contents c.args.streams.now.out) (g.E.Write.contents c.args.streams.now.err) in
    let b = held (g.O.Write.contents c.loop-ended.streams.out) (g.E.Write.contents c.loop-ended.streams.err) in
    let d = held (g.O.Write.contents c.run_leg.new.streams.out) (g.E.Write.contents c.run_leg.new.streams.err) in
    record {
      same = c.run_leg.ensures.same ∙ c.loop-ended.invariant.same;
      comes =
          subst (λ (s : Scenario). Comes s waits from a d e) (sym c.run_leg.ensures.same)
          (leg-then c.loop-ended.scenario waits from a b d c.loop-ended.execution e c.in_ok-next.goes_on
          c.loop-ended.invariant.comes c.in_ok-next.ensures.ok c.if-not-goes_on.false);
    }
