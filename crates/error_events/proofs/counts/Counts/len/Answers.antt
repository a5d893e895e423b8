use Rattle.std.proofs.Common.{arith}
use Rattle.error_events.proofs.CountSteps.{length-counts}
use Rattle.error_events.proofs.counts.Counts.len.Goals as goal

pub returns : goal.returns
returns c = let e = length-counts c.args.self.now in omega (arith, e)
