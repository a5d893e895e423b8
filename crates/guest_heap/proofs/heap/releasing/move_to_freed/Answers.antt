use Rattle.std.proofs.Common.{Some, ap, inr, ◌∙◌}
use Rattle.guest_heap.specs.Entries.{with_entry}
use Rattle.guest_heap.specs.Tables.{entries_of}
use Rattle.guest_heap.proofs.FreeSteps.{on_any}
use Rattle.guest_heap.proofs.heap.releasing.move_to_freed.Goals as goal

pub returns-clause-freed : goal.returns-clause-freed
returns-clause-freed c =
    (on_any c.set-2.result (c.in_ok-set.ensures.ok
    ∙ ap (λ e. with_entry (entries_of c.args.freed.now) c.args.slot (Some e)) c.in_ok-clone.ensures.cases)).0

pub returns-clause-freed_err : goal.returns-clause-freed_err
returns-clause-freed_err c =
    (on_any c.set-2.result (inr (c.in_ok-set.ensures.ok
    ∙ ap (λ e. with_entry (entries_of c.args.freed.now) c.args.slot (Some e)) c.in_ok-clone.ensures.cases))).1
