use Rattle.shadow_memory.proofs.Scanning.{lesser-lanes}
use Rattle.shadow_memory.proofs.word_scans.lesser.Goals as goal

pub returns-clause-len : goal.returns-clause-len
returns-clause-len c = (lesser-lanes c.args.lanes c.args.others 16 c.requires.lanes c.requires.others).0

pub returns-clause-each : goal.returns-clause-each
returns-clause-each c = (lesser-lanes c.args.lanes c.args.others 16 c.requires.lanes c.requires.others).1
