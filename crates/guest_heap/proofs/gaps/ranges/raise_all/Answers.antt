use Rattle.std.proofs.Common.{◌<◌, ◌∙◌, ap, length, set, arith}
use Rattle.std.proofs.lemmas.List.{get_or_default}
use Rattle.std.proofs.lemmas.List.Edits.{map_over_more}
use Rattle.guest_heap.specs.Gaps.{raised}
use Rattle.guest_heap.proofs.gaps.ranges.raise_all.Goals as goal

pub loop-range-preserved : goal.loop-range-preserved
loop-range-preserved c =
    let inside : c.loop-range.range-index < length c.deref_mut-range-items.result.now = omega arith in
    ap (set c.loop-range.range-items c.loop-range.range-index) c.raised.ensures
    ∙ map_over_more (raised c.args.opened.now) _ _ c.loop-range.range-index _ inside c.loop-range.invariant
    (get_or_default c.loop-range.range-items c.loop-range.range-index _ _ (omega arith))
