use Rattle.std.proofs.Common.{◌-◌, ◌<◌, arith}
use Rattle.guest_heap.specs.Blocks.{high_end}
use Rattle.guest_heap.specs.Heaps.{blocks_of, redzone_in}
use Rattle.guest_heap.specs.Entries.{block_of}
use Rattle.guest_heap.proofs.PlaceSteps.{reached}
use Rattle.guest_heap.proofs.SearchSteps.{room_passed, room_ended, none_in_room}
use Rattle.guest_heap.proofs.heap.Heap.look.Goals as goal

pub returns-then-at-reach : goal.returns-then-at-reach
unfolding blocks_of redzone_in
returns-then-at-reach c =
    let heap = c.args.self.now in
    let inv = c.loop-at.invariant in
    let room = c.max-then-at-reach.ensures in
    let left = c.saturating_sub.ensures in
    let end = c.end_of-end.ensures in
    record {
      less = omega (
        arith,
        inv.less,
        room,
        left,
        end,
        c.from.ensures,
        c.from-before.ensures,
        c.max.ensures,
        c.if-at-reach.true,
      );
      none =
          room_ended (blocks_of heap) heap.redzone c.args.from c.loop-at.at c.args.until c.loop-at.room
          c.max-then-at-reach.result inv.none (omega (arith, room))
          (omega (arith, room, left, end, c.from-before.ensures));
    }

pub returns-in-None : goal.returns-in-None
unfolding blocks_of redzone_in
returns-in-None c =
    let heap = c.args.self.now in
    let inv = c.loop-at.invariant in
    let before = none_in_room (blocks_of heap) c.args.size heap.redzone c.args.from c.loop-at.at c.loop-at.room
    c.requires.reached.none inv.less inv.none in
    let redzone = c.from-before.ensures in
    let after = c.from.ensures in
    reached (blocks_of heap) c.args.size heap.redzone c.loop-at.at c.requires.small inv.multiple inv.above
    (omega (arith, c.if-at-reach.false, c.end_of-end.ensures, redzone, after, c.max.ensures)) before
    (λ b kept meets. c.in-None.ensures.none b kept
    (omega (arith, meets.0, redzone), omega (arith, meets.1, redzone, after, c.max.ensures)))

pub loop-at-preserved : goal.loop-at-preserved
unfolding blocks_of redzone_in
loop-at-preserved c =
    let heap = c.args.self.now in
    let inv = c.loop-at.invariant in
    let b = block_of c.in-Some.entry.now in
    let end = c.high_end.ensures in
    let redzone = c.from-before.ensures in
    let near = c.aligned-at.ensures.near in
    let over = c.aligned-at.ensures.above in
    let meets = c.in-Some.ensures.meets in
    let past : c.loop-at.at - heap.redzone < high_end b = omega (arith, meets.0, redzone) in
    let room = c.max-room.ensures in
    let left = c.saturating_sub-in-Some.ensures in
    let low = c.low_end.ensures in
    record {
      multiple = c.aligned-at.ensures.multiple;
      above = omega (arith, past, end, redzone, over, inv.above);
      over = omega (arith, past, end, redzone, over, inv.over, inv.above);
      below = omega (arith, near, end, redzone, c.in-Some.ensures.within, c.aligned-at.ensures.near);
      less = omega (arith, inv.less, room, left, low, meets.1, c.from.ensures, redzone, c.max.ensures);
      none =
          room_passed (blocks_of heap) heap.redzone c.args.from c.loop-at.at c.aligned-at.result c.loop-at.room
          c.max-room.result b inv.multiple inv.none c.in-Some.ensures.some past (omega (arith, room))
          (omega (arith, room, left, low, redzone)) c.aligned-at.ensures.multiple (omega (arith, near, end, redzone));
    }
