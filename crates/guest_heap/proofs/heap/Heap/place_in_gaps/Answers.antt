use Rattle.std.proofs.Common.{subst}
use Rattle.guest_heap.specs.Heaps.{blocks_of, redzone_in}
use Rattle.guest_heap.specs.Searches.{IsReached, Searched}
use Rattle.guest_heap.specs.declared.heap.places.Search.{Search}
use Rattle.guest_heap.proofs.heap.Heap.place_in_gaps.Goals as goal

pub returns-in_err-pass-in-At-clause-gaps : goal.returns-in_err-pass-in-At-clause-gaps
unfolding blocks_of redzone_in
returns-in_err-pass-in-At-clause-gaps c =
    let heap = c.args.self.now in
    let P : Search → Type 0 = Searched (blocks_of heap) c.args.size heap.redzone in
    let reached : IsReached (blocks_of heap) c.args.size heap.redzone c.in-At.next =
    subst P c.in-At.is c.in_ok-place.ensures.searched in
    c.pass.ensures (blocks_of heap) heap.redzone (λ q _ less. reached.none q less) c.search_part.ensures.gaps

pub loop-at-preserved : goal.loop-at-preserved
unfolding blocks_of redzone_in
loop-at-preserved c =
    let heap = c.args.self.now in
    let P : Search → Type 0 = Searched (blocks_of heap) c.args.size heap.redzone in
    let reached : IsReached (blocks_of heap) c.args.size heap.redzone c.in-At.next =
    subst P c.in-At.is c.in_ok-place.ensures.searched in
    record {
      reached = reached;
      gaps =
          c.pass.ensures (blocks_of heap) heap.redzone (λ q _ less. reached.none q less) c.search_part.ensures.gaps;
    }
