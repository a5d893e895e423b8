use Rattle.std.proofs.Common.{inl, inr, sym, subst, List}
use Rattle.guest_heap.specs.BoundLists.{bounds_in}
use Rattle.guest_heap.specs.Heaps.{blocks_of, redzone_in}
use Rattle.guest_heap.specs.Bounds.{AreBounds}
use Rattle.guest_heap.specs.declared.bounds.Bound.{Bound}
use Rattle.guest_heap.proofs.BoundSteps.{put_holds}
use Rattle.guest_heap.proofs.PutSteps.{either_way}
use Rattle.guest_heap.proofs.heap.Heap.raise_bound.Goals as goal

pub invariant_of-self : goal.invariant_of-self
unfolding blocks_of redzone_in
invariant_of-self c =
    let heap = c.raised.new.self in
    let P : List Bound → Type 0 = λ bs. AreBounds (blocks_of heap) heap.redzone bs in
    record {
      grid = heap.grid;
      some = heap.some;
      within = heap.within;
      sound = heap.sound;
      numbered = heap.numbered;
      volume = heap.volume;
      known = record {
        by_class = elim (either_way c.put.result c.put.ensures.ok c.put.ensures.err) [
          | inl written ↦ subst P (sym written) (put_holds (blocks_of heap) heap.redzone (bounds_in heap.bounds)
              c.args.class.now.index _ heap.known.by_class c.in_ok-raised.ensures.holds)
          | inr same ↦ subst P (sym same) heap.known.by_class
        ];
        by_part = heap.known.by_part;
      };
    }
