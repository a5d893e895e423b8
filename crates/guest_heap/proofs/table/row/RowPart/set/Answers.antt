use Rattle.std.proofs.Common.{◌≡◌, ◌∙◌, ap}
use Rattle.guest_heap.specs.Entries.{with_entry, entry_of}
use Rattle.guest_heap.specs.Rows.{entries_along}
use Rattle.guest_heap.proofs.FreeSteps.{on_any}
use Rattle.guest_heap.proofs.Parts.{is_ok, own_part}
use Rattle.guest_heap.proofs.table.row.RowPart.set.Goals as goal

pub returns-clause-ok : goal.returns-clause-ok
returns-clause-ok g c =
    let entries = entries_along g.P.Part.PLACES g.P.Part.entries in
    let kept = c.make_mut.follows.holds c.put.new.self (is_ok _ _ c.in_ok-row.was) in
    let same =
    own_part entries (λ row copy. entries copy ≡ entries row) (λ row copy h. h) _ _ c.in_ok-row.ensures.value in
    ap entries kept ∙ c.in_ok-put.ensures.ok ∙ ap (λ es. with_entry es c.args.at (entry_of c.args.entry)) same

pub returns-clause-empty : goal.returns-clause-empty
returns-clause-empty g c empty =
    let entries = entries_along g.P.Part.PLACES g.P.Part.entries in
    let kept = c.make_mut.follows.holds c.put.new.self (is_ok _ _ c.in_ok-row.was) in
    ap entries kept ∙ c.is_empty.ensures empty

pub returns-in_err-put-clause-err : goal.returns-in_err-put-clause-err
returns-in_err-put-clause-err g c =
    let entries = entries_along g.P.Part.PLACES g.P.Part.entries in
    let kept = c.make_mut.follows.holds c.put.new.self (is_ok _ _ c.in_ok-row.was) in
    let same =
    own_part entries (λ row copy. entries copy ≡ entries row) (λ row copy h. h) _ _ c.in_ok-row.ensures.value in
    (on_any _ (ap entries kept ∙ c.in_err-put.ensures.err ∙ same)).1
