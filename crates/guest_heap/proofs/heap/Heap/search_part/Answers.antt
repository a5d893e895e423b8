use Rattle.std.proofs.Common.{arith}
use Rattle.guest_heap.specs.Heaps.{blocks_of, redzone_in}
use Rattle.guest_heap.proofs.SearchSteps.{none_in_room, none_joined}
use Rattle.guest_heap.proofs.heap.Heap.search_part.Goals as goal

pub returns-then-passed-at-clause-searched : goal.returns-then-passed-at-clause-searched
unfolding blocks_of redzone_in
returns-then-passed-at-clause-searched c =
    let heap = c.args.self.now in
    let reached = c.requires.reached in
    record {
      multiple = c.past-passed.ensures.multiple;
      above = omega (arith, reached.above, c.if-passed-at.true);
      below = c.past-passed.ensures.below;
      none =
          none_joined (blocks_of heap) c.args.size heap.redzone c.args.at c.past-passed.result reached.none
          (c.past-passed.ensures.passed (blocks_of heap) heap.redzone c.requires.gaps);
    }

pub returns-in_ok-put-in-Room-clause-searched : goal.returns-in_ok-put-in-Room-clause-searched
unfolding blocks_of redzone_in
returns-in_ok-put-in-Room-clause-searched c =
    let heap = c.args.self.now in
    let reached = c.requires.reached in
    let until = c.part_end-until.ensures in
    record {
      multiple = until.multiple;
      above = omega (arith, reached.above, until.above);
      below = omega (arith, until.near, c.requires.within, heap.within);
      none =
          none_in_room (blocks_of heap) c.args.size heap.redzone c.args.at c.part_end-until.result c.in-Room.room
          reached.none c.in-Room.ensures.less c.in-Room.ensures.none;
    }
