use Rattle.test_runs.specs.Executions.{held, step_of}
use Rattle.test_runs.proofs.Steps.{front-then, if-err}
use Rattle.test_runs.proofs.execution.Execution.run.Goals as goal

pub returns-in_err-next-clause-err : goal.returns-in_err-next-clause-err
returns-in_err-next-clause-err g c =
    if-err c.from_residual.result _
    (front-then c.args.scenario.now (step_of c.args.self) (step_of c.loop-execution.execution)
    (held (g.O.Write.contents c.args.streams.now.out) (g.E.Write.contents c.args.streams.now.err))
    (held (g.O.Write.contents c.loop-execution.streams.out) (g.E.Write.contents c.loop-execution.streams.err))
    (held (g.O.Write.contents c.run_stretch.new.streams.out) (g.E.Write.contents c.run_stretch.new.streams.err))
    c.loop-execution.invariant.wrote c.in_err-next.ensures.err)
