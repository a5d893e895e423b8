use Rattle.std.proofs.Common.{ℕ, ◌+◌, inl, sym, subst, arith}
use Rattle.guest_heap.specs.Heaps.{blocks_of, live_in, freed_in, first_in}
use Rattle.guest_heap.specs.Tables.{entries_of}
use Rattle.guest_heap.specs.Queues.{queued}
use Rattle.guest_heap.specs.States.{BeginsAbove, shown}
use Rattle.guest_heap.specs.Entries.{block_of}
use Rattle.guest_heap.proofs.KeptSteps.{begins_above}
use Rattle.guest_heap.proofs.heap.Heap.begin_above.Goals as goal

pub returns-in-Some : goal.returns-in-Some
unfolding blocks_of live_in freed_in first_in
returns-in-Some c =
    let heap = c.args.self.now in
    let P : ℕ → Type 0 = BeginsAbove (shown heap.begin (entries_of heap.live) (queued heap.queue)) c.args.start in
    record {
      begin =
          subst P (sym c.low_end.ensures) (begins_above heap.begin (entries_of heap.live) (entries_of heap.freed)
          (queued heap.queue) heap.first heap.sound
          (c.slot_of.result + 1) c.args.start (block_of c.in-Some.entry.now) c.in-Some.ensures
          (omega (arith, c.slot_of.ensures)));
    }

pub returns-in-None : goal.returns-in-None
unfolding blocks_of
returns-in-None c = record { begin = inl c.end_of.ensures }
