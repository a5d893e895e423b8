use Rattle.guest_heap.specs.Heaps.{blocks_of}
use Rattle.guest_heap.specs.Queues.{queued}
use Rattle.guest_heap.specs.Tables.{entries_of}
use Rattle.guest_heap.proofs.Comparing.{same_blocks}
use Rattle.guest_heap.proofs.heap.Heap.is_same.Goals as goal

pub returns-then-is_same : goal.returns-then-is_same
unfolding blocks_of
returns-then-is_same c same =
    let self = c.args.self.now in
    let other = c.args.other.now in
    same_blocks self.begin other.begin (entries_of self.live) (entries_of other.live) (entries_of self.freed)
    (entries_of other.freed) (queued self.queue) (queued other.queue) self.first other.first self.sound other.sound
    c.if-self-other.false (c.are_same.ensures same) (c.is_same.ensures c.if-is_same.true)
