use Rattle.std.proofs.Common.{ap, sym, ◌∙◌, Some}
use Rattle.guest_heap.proofs.RunSteps.{entry_there}
use Rattle.guest_heap.proofs.queue.runs.entry_at.Goals as goal

pub returns-then-at-run : goal.returns-then-at-run
returns-then-at-run c = ap Some c.deref.ensures ∙ sym (entry_there _ _ _ _ c.index-run-at.is c.if-at-run.true)
