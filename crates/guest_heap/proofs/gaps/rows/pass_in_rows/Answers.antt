use Rattle.std.proofs.Common.{List, ap, sym, subst}
use Rattle.guest_heap.specs.Gaps.{AreGaps}
use Rattle.guest_heap.specs.declared.gaps.row.GapRow.{GapRow}
use Rattle.guest_heap.proofs.GapSteps.{own_rows}
use Rattle.guest_heap.proofs.Parts.{is_ok}
use Rattle.guest_heap.proofs.gaps.rows.pass_in_rows.Goals as goal

pub returns : goal.returns
returns c blocks redzone none hold =
    let P : List GapRow → Type 0 = AreGaps blocks redzone in
    let kept = c.make_mut.follows.holds c.pass_row.new.rows (is_ok _ _ c.in_ok-own.was) in
    let same = own_rows _ _ c.in_ok-own.ensures.value in
    subst P (ap (λ v. v.items) (sym kept)) (c.pass_row.ensures blocks redzone none (subst P (sym same) hold))
