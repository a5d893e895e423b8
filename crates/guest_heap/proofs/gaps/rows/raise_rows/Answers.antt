use Rattle.std.proofs.Common.{◌<◌, ◌∙◌, ap, length, set, arith}
use Rattle.std.proofs.lemmas.List.{get_or_default}
use Rattle.std.proofs.lemmas.List.Edits.{map_over_more}
use Rattle.guest_heap.specs.Gaps.{raised_row}
use Rattle.guest_heap.proofs.gaps.rows.raise_rows.Goals as goal

pub loop-row-preserved : goal.loop-row-preserved
loop-row-preserved c =
    let inside : c.loop-row.row-index < length c.deref_mut-row-items.result.now = omega arith in
    ap (set c.loop-row.row-items c.loop-row.row-index) c.in_ok-raise.ensures
    ∙ map_over_more (raised_row c.args.opened.now) _ _ c.loop-row.row-index _ inside c.loop-row.invariant
    (get_or_default c.loop-row.row-items c.loop-row.row-index _ _ (omega arith))
