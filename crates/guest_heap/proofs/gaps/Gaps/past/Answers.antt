use Rattle.std.proofs.Common.{rules, ◌≡◌, ◌∙◌, Some, ap, sym, subst, slice_get}
use Rattle.std.proofs.lemmas.Option.{slice_get_read}
use Rattle.std.specs.declared.alloc.Global.{Global}
use Rattle.std.specs.declared.vec.Vec.{Vec}
use Rattle.guest_heap.specs.SharedLists.{items_in}
use Rattle.guest_heap.specs.declared.gaps.row.GapRow.{GapRow}
use Rattle.guest_heap.proofs.gaps.Gaps.past.Goals as goal

pub returns-then-row-len-clause-passed : goal.returns-then-row-len-clause-passed
returns-then-row-len-clause-passed c blocks redzone hold =
    let row = c.index.result.now in
    let P : Vec GapRow Global → Type 0 = λ rows. slice_get rows.items c.row_of-row.result ≡ Some row in
    let there = subst P c.deref-then-row-len.ensures
    (slice_get_read c.deref-then-row-len.result.now.items c.len.result c.row_of-row.result row (search rules)
    c.if-row-len.true c.index.ensures) in
    let same = sym c.self.view_is ∙ ap items_in c.in-Some.is in
    c.past.ensures.passed blocks redzone
    (hold c.row_of-row.result row (ap (λ rows. slice_get rows c.row_of-row.result) same ∙ there))
