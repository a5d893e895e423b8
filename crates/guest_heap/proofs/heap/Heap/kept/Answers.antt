use Rattle.std.proofs.Common.{sym, subst, arith, ◌<◌}
use Rattle.call_stacks.specs.declared.block.Block.{Block}
use Rattle.guest_heap.specs.Blocks.{IsFirstKept}
use Rattle.guest_heap.specs.Heaps.{blocks_of, live_in, freed_in, first_in}
use Rattle.guest_heap.specs.Tables.{entries_of}
use Rattle.guest_heap.specs.Queues.{queued}
use Rattle.guest_heap.specs.Entries.{block_of}
use Rattle.guest_heap.proofs.NearSteps.{first_kept_is, kept_below, no_kept_is}
use Rattle.guest_heap.proofs.heap.Heap.kept.Goals as goal

pub returns-in-Some-clause-some : goal.returns-in-Some-clause-some
unfolding blocks_of live_in freed_in first_in
returns-in-Some-clause-some c =
    let heap = c.args.self.now in
    let P : Block → Type 0 = λ b. IsFirstKept (blocks_of heap) c.args.from b in
    subst P (sym c.block.ensures) (first_kept_is _ (entries_of heap.live) (entries_of heap.freed) (queued heap.queue)
    heap.first heap.sound c.args.from c.min.result (block_of c.in-Some.entry.now)
    (omega (arith, c.min.ensures, c.max.ensures, c.from.ensures, c.from-begin.ensures)) c.in-Some.ensures)

pub returns-in-Some-clause-below : goal.returns-in-Some-clause-below
unfolding blocks_of live_in freed_in first_in
returns-in-Some-clause-below c =
    let heap = c.args.self.now in
    let P : Block → Type 0 = λ b. b.start < 4294967295 in
    subst P (sym c.block.ensures) (kept_below _ (entries_of heap.live) (entries_of heap.freed) (queued heap.queue)
    heap.first heap.sound c.min.result (block_of c.in-Some.entry.now) heap.within c.in-Some.ensures)

pub returns-in-None-clause-none : goal.returns-in-None-clause-none
unfolding blocks_of live_in freed_in first_in
returns-in-None-clause-none c =
    let heap = c.args.self.now in
    no_kept_is _ (entries_of heap.live) (entries_of heap.freed) (queued heap.queue) heap.first heap.sound c.args.from
    c.min.result (omega (arith, c.min.ensures, c.max.ensures, c.from.ensures, c.from-begin.ensures)) c.in-None.ensures
