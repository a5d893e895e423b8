use Rattle.std.proofs.Common.{ℕ, ◌+◌, length, refl, ap, ap₂, sym, subst, ◌∙◌, arith}
use Rattle.guest_heap.specs.BoundLists.{bounds_in}
use Rattle.guest_heap.specs.Heaps.{blocks_of}
use Rattle.guest_heap.specs.Blocks.{Blocks, freed_by}
use Rattle.guest_heap.specs.States.{shown, volume_in}
use Rattle.guest_heap.specs.Gaps.{AreKnown}
use Rattle.guest_heap.specs.Entries.{entry_for}
use Rattle.guest_heap.specs.Tables.{entries_of}
use Rattle.guest_heap.specs.Queues.{queued}
use Rattle.guest_heap.specs.declared.entry.Entry.{Entry}
use Rattle.guest_heap.proofs.FreeSteps.{old, spared_sound, enqueued_sound, enqueued_shown, enqueued_volume}
use Rattle.guest_heap.proofs.FreeSteps.{enqueued_length, same_sound, on_any}
use Rattle.guest_heap.proofs.KnownSteps.{known_freed, same_known}
use Rattle.guest_heap.proofs.heap.Heap.enqueue.Goals as goal

pub slot_of-slot-requires : goal.slot_of-slot-requires
unfolding blocks_of
slot_of-slot-requires c =
    let heap = c.args.self.now in
    let placed = (old heap.begin (entries_of heap.live) (entries_of heap.freed) (queued heap.queue) heap.first
    heap.sound c.args.block.now c.args.trace c.requires.live).placed in
    omega (arith, placed.low)

pub invariant_of-self-2 : goal.invariant_of-self-2
unfolding blocks_of
invariant_of-self-2 c =
    let heap = c.args.self.now in
    let P : ℕ → Entry = λ n. entry_for (freed_by c.args.trace c.args.block.now) n in
    let sizes = enqueued_volume heap.begin (entries_of heap.live) (entries_of heap.freed) (queued heap.queue) heap.first
    heap.sound c.args.block.now c.args.trace c.requires.live
    _ _ _ _ _ _ _ c.in_ok-move_to_freed.ensures.live c.in_ok-move_to_freed.ensures.freed c.push.ensures
    c.in_ok-prepare.ensures.same c.slot_of-slot.ensures refl (c.in_ok-freed.ensures ∙ ap P heap.numbered) in
    let lengths = enqueued_length heap.begin (entries_of heap.live) (entries_of heap.freed) (queued heap.queue)
    heap.first heap.sound c.args.block.now c.args.trace c.requires.live
    _ _ _ _ _ _ _ c.in_ok-move_to_freed.ensures.live c.in_ok-move_to_freed.ensures.freed c.push.ensures
    c.in_ok-prepare.ensures.same c.slot_of-slot.ensures refl (c.in_ok-freed.ensures ∙ ap P heap.numbered) in
    record {
      grid = heap.grid;
      some = heap.some;
      within = heap.within;
      sound =
          enqueued_sound heap.begin (entries_of heap.live) (entries_of heap.freed) (queued heap.queue) heap.first
          heap.sound c.args.block.now c.args.trace c.requires.live
          _ _ _ _ _ _ _ c.in_ok-move_to_freed.ensures.live c.in_ok-move_to_freed.ensures.freed c.push.ensures
          c.in_ok-prepare.ensures.same c.slot_of-slot.ensures refl (c.in_ok-freed.ensures ∙ ap P heap.numbered);
      numbered = omega (arith, heap.numbered, lengths, c.in-Some.ensures);
      volume = omega (arith, heap.volume, sizes, c.in-Some-checked_add.ensures, c.from.ensures);
      known = (let Q : Blocks → Type 0 = λ bs. AreKnown bs heap.redzone (bounds_in heap.bounds) heap.gaps in
          subst Q (sym (enqueued_shown heap.begin (entries_of heap.live) (entries_of heap.freed) (queued heap.queue)
          heap.first heap.sound c.args.block.now c.args.trace c.requires.live
          _ _ _ _ _ _ _ c.in_ok-move_to_freed.ensures.live c.in_ok-move_to_freed.ensures.freed c.push.ensures
          c.in_ok-prepare.ensures.same c.slot_of-slot.ensures refl
          (c.in_ok-freed.ensures ∙ ap P heap.numbered)))
          (known_freed (shown heap.begin (entries_of heap.live) (queued heap.queue)) c.args.block.now c.args.trace
          heap.redzone
          (bounds_in heap.bounds) heap.gaps c.requires.live
          heap.known));
    }

pub returns-clause-ok : goal.returns-clause-ok
unfolding blocks_of
returns-clause-ok c =
    let heap = c.args.self.now in
    let P : ℕ → Entry = λ n. entry_for (freed_by c.args.trace c.args.block.now) n in
    enqueued_shown heap.begin (entries_of heap.live) (entries_of heap.freed) (queued heap.queue) heap.first heap.sound
    c.args.block.now c.args.trace c.requires.live
    _ _ _ _ _ _ _ c.in_ok-move_to_freed.ensures.live c.in_ok-move_to_freed.ensures.freed c.push.ensures
    c.in_ok-prepare.ensures.same c.slot_of-slot.ensures refl (c.in_ok-freed.ensures ∙ ap P heap.numbered)

pub invariant_of-self-in-Break-branch-3 : goal.invariant_of-self-in-Break-branch-3
unfolding blocks_of
invariant_of-self-in-Break-branch-3 c =
    let heap = c.args.self.now in
    record {
      grid = heap.grid;
      some = heap.some;
      within = heap.within;
      sound =
          spared_sound heap.begin (entries_of heap.live) (entries_of heap.freed) (queued heap.queue) heap.first
          heap.sound c.args.block.now c.args.trace c.requires.live
          _ _ _ _ _ c.in_err-move_to_freed.ensures.live_err c.prepare.ensures.same c.slot_of-slot.ensures
          c.in_err-move_to_freed.ensures.freed_err;
      numbered = heap.numbered ∙ ap (λ es. heap.first + length es) (sym c.prepare.ensures.same);
      volume = heap.volume ∙ ap volume_in (sym c.prepare.ensures.same);
      known =
          same_known heap.begin (entries_of heap.live) (entries_of c.move_to_freed.new.live) (queued heap.queue)
          (queued c.prepare.new.self) heap.redzone
          (bounds_in heap.bounds) heap.gaps c.in_err-move_to_freed.ensures.live_err c.prepare.ensures.same heap.known;
    }

pub invariant_of-self : goal.invariant_of-self
unfolding blocks_of
invariant_of-self c =
    let heap = c.args.self.now in
    let same = c.prepare.ensures.same in
    record {
      grid = heap.grid;
      some = heap.some;
      within = heap.within;
      sound = same_sound heap.begin _ _ _ _ _ _ heap.first refl refl same heap.sound;
      numbered = heap.numbered ∙ ap (λ es. heap.first + length es) (sym same);
      volume = heap.volume ∙ ap volume_in (sym same);
      known =
          same_known heap.begin (entries_of heap.live) (entries_of heap.live) (queued heap.queue)
          (queued c.prepare.new.self)
          heap.redzone (bounds_in heap.bounds) heap.gaps refl same heap.known;
    }

pub returns-in_err-prepare-clause-err : goal.returns-in_err-prepare-clause-err
unfolding blocks_of
returns-in_err-prepare-clause-err c =
    (on_any _ (ap (λ es. shown c.args.self.now.begin (entries_of c.args.self.now.live) es) c.prepare.ensures.same)).1

pub returns-in_err-move_to_freed-clause-err : goal.returns-in_err-move_to_freed-clause-err
unfolding blocks_of
returns-in_err-move_to_freed-clause-err c =
    (on_any _ (ap₂ (shown c.args.self.now.begin) c.in_err-move_to_freed.ensures.live_err c.prepare.ensures.same)).1
