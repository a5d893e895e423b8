use Rattle.std.proofs.Common.{◌<◌, ◌∙◌, ap, length, set, arith}
use Rattle.std.proofs.lemmas.List.{get_or_default}
use Rattle.std.proofs.lemmas.List.Edits.{map_over_more}
use Rattle.guest_heap.specs.Bounds.{lowered}
use Rattle.guest_heap.proofs.bounds.lower_all.Goals as goal

pub loop-bound-preserved : goal.loop-bound-preserved
loop-bound-preserved c =
    let inside : c.loop-bound.bound-index < length c.deref_mut-bound-items.result.now = omega arith in
    ap (set c.loop-bound.bound-items c.loop-bound.bound-index) c.lowered.ensures
    ∙ map_over_more (lowered c.args.opened.now) _ _ c.loop-bound.bound-index _ inside c.loop-bound.invariant
    (get_or_default c.loop-bound.bound-items c.loop-bound.bound-index _ _ (omega arith))
