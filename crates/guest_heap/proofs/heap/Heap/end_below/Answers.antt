use Rattle.std.proofs.Common.{ℕ, inl, sym, subst, arith}
use Rattle.guest_heap.specs.Heaps.{blocks_of, live_in, freed_in, first_in}
use Rattle.guest_heap.specs.Tables.{entries_of}
use Rattle.guest_heap.specs.Queues.{queued}
use Rattle.guest_heap.specs.States.{EndsBelow, shown}
use Rattle.guest_heap.specs.Entries.{block_of}
use Rattle.guest_heap.proofs.KeptSteps.{ends_below}
use Rattle.guest_heap.proofs.heap.Heap.end_below.Goals as goal

pub returns-in-Some-clause-end : goal.returns-in-Some-clause-end
unfolding blocks_of live_in freed_in first_in
returns-in-Some-clause-end c =
    let heap = c.args.self.now in
    let P : ℕ → Type 0 = EndsBelow (shown heap.begin (entries_of heap.live) (queued heap.queue)) c.args.start in
    subst P (sym c.high_end.ensures)
    (ends_below heap.begin (entries_of heap.live) (entries_of heap.freed) (queued heap.queue)
    heap.first heap.sound c.slot_of.result
    c.args.start (block_of c.in-Some.entry.now) c.in-Some.ensures (omega (arith, c.slot_of.ensures))).0

pub returns-in-Some-clause-within : goal.returns-in-Some-clause-within
unfolding live_in freed_in first_in
returns-in-Some-clause-within c =
    let heap = c.args.self.now in
    omega (
      arith,
      c.high_end.ensures,
      (ends_below heap.begin (entries_of heap.live) (entries_of heap.freed) (queued heap.queue) heap.first heap.sound
          c.slot_of.result
          c.args.start (block_of c.in-Some.entry.now) c.in-Some.ensures (omega (arith, c.slot_of.ensures))).1,
    )

pub returns-in-None-clause-end : goal.returns-in-None-clause-end
unfolding blocks_of
returns-in-None-clause-end c = inl c.from.ensures
