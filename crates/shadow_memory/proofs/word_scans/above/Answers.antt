use Rattle.shadow_memory.proofs.Scanning.{lane-above}
use Rattle.shadow_memory.proofs.word_scans.above.Goals as goal

pub returns-clause-each : goal.returns-clause-each
returns-clause-each c j near =
    lane-above c.args.bytes.now c.args.at c.args.low j c.requires (λ k. c.type_inv.bytes k) near
