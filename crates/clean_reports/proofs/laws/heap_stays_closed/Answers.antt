use Rattle.clean_reports.proofs.HeapRuns.{heap-stays-closed}
use Rattle.clean_reports.proofs.laws.heap_stays_closed.Goals as goal

pub returns : goal.returns
returns c = heap-stays-closed
