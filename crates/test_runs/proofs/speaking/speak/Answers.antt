use Rattle.shadow_memory.specs.Memories.{bytes_in}
use Rattle.test_runs.specs.Executions.{held}
use Rattle.test_runs.proofs.Parts.{gives-nothing, open-nothing}
use Rattle.test_runs.proofs.speaking.speak.Goals as goal

pub returns-in-None-clause-ok : goal.returns-in-None-clause-ok
returns-in-None-clause-ok g c =
    gives-nothing (bytes_in c.args.memory.now) c.args.range c.args.descriptor
    (held (g.O.Write.contents c.args.streams.now.out) (g.E.Write.contents c.args.streams.now.err)) c.in-None.is

pub returns-in-None-clause-line : goal.returns-in-None-clause-line
returns-in-None-clause-line g c =
    open-nothing (bytes_in c.args.memory.now) c.args.range c.args.descriptor c.args.was_open c.in-None.is
