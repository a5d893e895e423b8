use Rattle.std.proofs.Common.{List, Option, subst, sym, ℕ}
use Rattle.test_runs.specs.Executions.{held, step_of, IsAt, LeavesEnd, StopsAt, Wrote, WroteFront}
use Rattle.scenario.specs.Scenario.{Scenario}
use Rattle.test_runs.proofs.Looks.{apart-if, at-chosen, front-before, leg-ends, same-if}
use Rattle.test_runs.proofs.Stages.{if-err}
use Rattle.test_runs.proofs.watching.run_leg.Goals as goal

pub run-run-requires-clause-at : goal.run-run-requires-clause-at
run-run-requires-clause-at g c =
    subst (IsAt c.args.execution) (sym c.choose.ensures) (at-chosen c.args.scenario.now c.next_look-next.result
    c.args.execution c.requires.at)

pub returns-in_err-execution-clause-err : goal.returns-in_err-execution-clause-err
returns-in_err-execution-clause-err g c =
    let sc = c.args.scenario.now in
    let from = step_of c.args.execution in
    let old = held (g.O.Write.contents c.args.streams.now.out) (g.E.Write.contents c.args.streams.now.err) in
    let new = held (g.O.Write.contents c.run-run.new.streams.out) (g.E.Write.contents c.run-run.new.streams.err) in
    if-err c.from_residual.result (λ fault. WroteFront sc from old new)
    (λ fault. front-before sc c.next_look-next.result from old new c.next_look-next.ensures.within
    (subst (λ (s : Scenario). WroteFront s from old new) c.choose.ensures c.in_err-execution.ensures.err))

pub returns-clause-ok : goal.returns-clause-ok
returns-clause-ok g c =
    let sc = c.args.scenario.now in
    let from = step_of c.args.execution in
    let old = held (g.O.Write.contents c.args.streams.now.out) (g.E.Write.contents c.args.streams.now.err) in
    let new = held (g.O.Write.contents c.run-run.new.streams.out) (g.E.Write.contents c.run-run.new.streams.err) in
    let next = c.next_look-next.result in
    let e = c.in_ok-execution.execution in
    leg-ends sc next c.args.waits from old new e _ c.next_look-next.ensures.after c.next_look-next.ensures.within
    c.next_look-next.ensures.kept (subst (IsAt e) c.choose.ensures c.in_ok-execution.ensures.on)
    (subst (λ (s : Scenario). StopsAt s c.args.waits (step_of e)) c.choose.ensures c.in_ok-execution.ensures.stops)
    (subst (λ (s : Scenario). LeavesEnd s c.args.waits from (step_of e)) c.choose.ensures
    c.in_ok-execution.ensures.unseen)
    (subst (λ (s : Scenario). Wrote s from (step_of e) old new) c.choose.ensures c.in_ok-execution.ensures.ok)
    (same-if c.at.result next (step_of e) c.at.ensures) (apart-if c.at.result next (step_of e) c.at.ensures)
