use Rattle.clean_reports.proofs.HeapRuns.{accesses-are-live}
use Rattle.clean_reports.proofs.laws.accesses_are_live.Goals as goal

pub returns : goal.returns
returns c = accesses-are-live
