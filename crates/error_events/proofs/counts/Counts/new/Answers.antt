use Rattle.std.proofs.Common.{rules}
use Rattle.error_events.specs.Counts.{in_chunks}
use Rattle.error_events.specs.CountLists.{counts_of}
use Rattle.error_events.proofs.counts.Counts.new.Goals as goal

pub returns : goal.returns
unfolding counts_of in_chunks
returns c = search rules
