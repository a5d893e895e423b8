use Rattle.std.proofs.Common.{◌∙◌, List, [], set, ap, sym, subst}
use Rattle.guest_heap.specs.Gaps.{IsPut}
use Rattle.guest_heap.specs.declared.gaps.ranges.Full.{Full}
use Rattle.guest_heap.proofs.GapSteps.{put_in_unknown}
use Rattle.guest_heap.proofs.gaps.ranges.unknown_but.Goals as goal

pub returns : goal.returns
returns c =
    let P : List Full → Type 0 = IsPut c.args.range [] in
    let same = ap (λ list. list.items) c.in_ok-new.ensures.ok ∙ c.put_at.ensures
    ∙ ap (λ xs. set xs c.args.part c.args.range) (c.in_ok-list.ensures.items_if_clones_equal (λ copy same. same)) in
    subst P (sym same) (put_in_unknown 256 c.args.part c.args.range)
