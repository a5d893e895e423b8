use Rattle.std.proofs.Common.{◌+◌, length, List, ap, ap₂, sym, subst, ◌∙◌}
use Rattle.guest_heap.specs.BoundLists.{bounds_in}
use Rattle.guest_heap.specs.Heaps.{blocks_of}
use Rattle.guest_heap.specs.Tables.{entries_of}
use Rattle.guest_heap.specs.Queues.{queued}
use Rattle.guest_heap.specs.States.{shown, volume_in}
use Rattle.guest_heap.specs.Gaps.{AreKnown}
use Rattle.guest_heap.specs.declared.bounds.Bound.{Bound}
use Rattle.guest_heap.specs.declared.gaps.row.GapRow.{GapRow}
use Rattle.guest_heap.proofs.FreeSteps.{same_sound}
use Rattle.guest_heap.proofs.KnownSteps.{same_known}
use Rattle.guest_heap.proofs.heap.Heap.share.Goals as goal

pub invariant_of-result : goal.invariant_of-result
invariant_of-result c =
    let heap = c.args.self.now in
    let live = c.in_ok-live.ensures in
    let queue = c.in_ok-queue.ensures in
    let P : List Bound → Type 0 = λ bounds. AreKnown
    (shown heap.begin (entries_of c.in_ok-live.live) (queued c.in_ok-queue.queue)) heap.redzone bounds heap.gaps in
    let Q : List GapRow → Type 0 = λ rows. AreKnown
    (shown heap.begin (entries_of c.in_ok-live.live) (queued c.in_ok-queue.queue)) heap.redzone
    (bounds_in c.in_ok-bounds.bounds) rows in
    record {
      grid = heap.grid;
      some = heap.some;
      within = heap.within;
      sound = same_sound heap.begin _ _ _ _ _ _ heap.first live c.in_ok-freed.ensures queue heap.sound;
      numbered = heap.numbered ∙ ap (λ es. heap.first + length es) (sym queue);
      volume = heap.volume ∙ ap volume_in (sym queue);
      known =
          subst Q (sym c.in_ok-gaps.ensures) (subst P (sym c.in_ok-bounds.ensures)
          (same_known heap.begin (entries_of heap.live) (entries_of c.in_ok-live.live)
          (queued heap.queue) (queued c.in_ok-queue.queue) heap.redzone (bounds_in heap.bounds) heap.gaps live queue
          heap.known));
    }

pub returns : goal.returns
unfolding blocks_of
returns c = ap₂ (shown c.args.self.now.begin) c.in_ok-live.ensures c.in_ok-queue.ensures
