use Rattle.test_runs.proofs.Runs.{never-waits, rest-of}
use Rattle.test_runs.specs.Executions.{held, step_of}
use Rattle.test_runs.proofs.executing.run_rest.Goals as goal

pub returns-in-Some-clause-ok : goal.returns-in-Some-clause-ok
returns-in-Some-clause-ok g c =
    rest-of c.args.scenario.now c.args.limit (step_of c.args.execution)
    (held (g.O.Write.contents c.args.streams.now.out) (g.E.Write.contents c.args.streams.now.err))
    (held (g.O.Write.contents c.watch.new.streams.out) (g.E.Write.contents c.watch.new.streams.err)) c.in-Ok.execution
    c.in-Ok.ended c.in-Some.ended c.in-Ok.ensures.ok
    c.in-Some.is
