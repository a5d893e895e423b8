use Rattle.std.proofs.Common.{◌≡◌, ◌∙◌, ◌≤◌, max, arith}
use Rattle.guest_heap.specs.Heaps.{blocks_of, redzone_in}
use Rattle.guest_heap.proofs.BoundSteps.{none_up_to}
use Rattle.guest_heap.proofs.NoPlaces.{skipped_too}
use Rattle.guest_heap.proofs.heap.Heap.place.Goals as goal

pub place_from-requires-clause-reached : goal.place_from-requires-clause-reached
unfolding blocks_of redzone_in
place_from-requires-clause-reached c =
    let bound = c.in_ok-bound.bound in
    let heap = c.raise_bound.new.self in
    let from = c.aligned-from.ensures in
    let redzone : redzone_in heap ≡ c.args.redzone = c.in_ok-bound.ensures.redzone
    ∙ c.in_ok-use_redzone.ensures.redzone in
    let less : max bound.size 1 ≤ max c.args.size 1 = omega (
      arith,
      c.in_ok-bound.ensures.size,
      c.class_of.ensures.least,
    ) in
    record {
      multiple = from.multiple;
      above = omega (arith, from.above, c.max.ensures, c.from-2.ensures, c.from-3.ensures, redzone);
      below = omega (arith, from.near, c.max.ensures, c.from.ensures, c.from-2.ensures, c.from-3.ensures);
      none =
          none_up_to (blocks_of heap) c.args.size bound.size heap.redzone bound.from c.aligned-from.result
          c.in_ok-bound.ensures.holds.below less from.multiple
          (omega (arith, from.near, c.max.ensures, c.from.ensures, c.from-2.ensures, c.from-3.ensures, redzone));
    }

pub place_from-requires-clause-skipped : goal.place_from-requires-clause-skipped
unfolding redzone_in
place_from-requires-clause-skipped c =
    let bound = c.in_ok-bound.bound in
    let heap = c.raise_bound.new.self in
    let less : max bound.size 1 ≤ max c.args.size 1 = omega (
      arith,
      c.in_ok-bound.ensures.size,
      c.class_of.ensures.least,
    ) in
    skipped_too (blocks_of heap) c.args.size bound.size heap.redzone bound.next bound.until
    c.in_ok-bound.ensures.holds.between less
