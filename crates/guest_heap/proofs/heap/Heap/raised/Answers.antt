use Rattle.std.proofs.Common.{ℕ, Option, subst, arith}
use Rattle.guest_heap.specs.Blocks.{Places}
use Rattle.guest_heap.specs.BoundLists.{bounds_in}
use Rattle.guest_heap.specs.Heaps.{blocks_of, redzone_in}
use Rattle.guest_heap.specs.States.{AreNoPlaces}
use Rattle.guest_heap.proofs.BoundSteps.{raised_from, taken_holds, raised_holds, none_below, none_at_all}
use Rattle.guest_heap.proofs.heap.Heap.raised.Goals as goal

pub place_from-requires-clause-reached : goal.place_from-requires-clause-reached
unfolding blocks_of redzone_in
place_from-requires-clause-reached c =
    let heap = c.args.self.now in
    let from = c.aligned-from.ensures in
    record {
      multiple = from.multiple;
      above = omega (arith, from.above, c.max.ensures, c.from.ensures, c.from-2.ensures);
      below = omega (arith, from.near, c.max.ensures, c.from.ensures, c.from-2.ensures, c.from-known.ensures);
      none =
          raised_from (blocks_of heap) (bounds_in heap.bounds) heap.redzone c.args.class.now.least c.known.result
          c.aligned-from.result heap.known.by_class c.known.ensures from.multiple
          (omega (arith, from.near, c.max.ensures, c.from.ensures, c.from-2.ensures, c.from-known.ensures));
    }

pub place_from-requires-clause-skipped : goal.place_from-requires-clause-skipped
unfolding blocks_of redzone_in
place_from-requires-clause-skipped c =
    let heap = c.args.self.now in
    let own = c.get-own.result in
    let P : ℕ → Type 0 = λ n. AreNoPlaces (blocks_of heap) n heap.redzone own.next own.until in
    subst P c.get-own.ensures.size (taken_holds (blocks_of heap) (bounds_in heap.bounds) heap.redzone own
    heap.known.by_class c.get-own.ensures.known).between

pub returns-in-Some-clause-holds : goal.returns-in-Some-clause-holds
unfolding blocks_of redzone_in
returns-in-Some-clause-holds c =
    let old = c.args.self.now in
    let heap = c.place_from.new.self in
    let own = c.get-own.result in
    let P : Option ℕ → Type 0 = Places (blocks_of heap) c.args.class.now.least heap.redzone in
    let place = subst P c.in-Some.is c.in_ok-place.ensures.place in
    raised_holds (blocks_of old) (blocks_of heap) old.redzone heap.redzone own c.args.class.now.least c.in-Some.place
    c.in_ok-place.ensures.same c.in_ok-place.ensures.redzone c.get-own.ensures.size
    (none_below (blocks_of heap) c.args.class.now.least heap.redzone c.in-Some.place place)
    (taken_holds (blocks_of old) (bounds_in old.bounds) old.redzone own old.known.by_class c.get-own.ensures.known)

pub returns-in-None-clause-holds : goal.returns-in-None-clause-holds
unfolding blocks_of redzone_in
returns-in-None-clause-holds c =
    let old = c.args.self.now in
    let heap = c.place_from.new.self in
    let own = c.get-own.result in
    let P : Option ℕ → Type 0 = Places (blocks_of heap) c.args.class.now.least heap.redzone in
    let place = subst P c.in-None.is c.in_ok-place.ensures.place in
    raised_holds (blocks_of old) (blocks_of heap) old.redzone heap.redzone own c.args.class.now.least c.end_of.result
    c.in_ok-place.ensures.same c.in_ok-place.ensures.redzone c.get-own.ensures.size
    (none_at_all (blocks_of heap) c.args.class.now.least heap.redzone c.end_of.result place)
    (taken_holds (blocks_of old) (bounds_in old.bounds) old.redzone own old.known.by_class c.get-own.ensures.known)
