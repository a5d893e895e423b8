use Rattle.clean_reports.proofs.HeapRuns.{heap-stays-open}
use Rattle.clean_reports.proofs.laws.heap_stays_open.Goals as goal

pub returns : goal.returns
returns c = heap-stays-open
