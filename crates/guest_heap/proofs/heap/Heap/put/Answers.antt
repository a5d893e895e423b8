use Rattle.std.proofs.Common.{inl, inr, Some, ap, sym, subst, ◌∙◌}
use Rattle.guest_heap.specs.BoundLists.{bounds_in}
use Rattle.guest_heap.specs.Heaps.{blocks_of}
use Rattle.guest_heap.specs.Entries.{Entries, block_of}
use Rattle.guest_heap.specs.States.{AreSound, shown}
use Rattle.guest_heap.specs.Gaps.{AreKnown}
use Rattle.guest_heap.specs.Blocks.{Blocks}
use Rattle.guest_heap.specs.Tables.{entries_of}
use Rattle.guest_heap.specs.Queues.{queued}
use Rattle.guest_heap.specs.declared.entry.Entry.{Entry}
use Rattle.guest_heap.proofs.PutSteps.{put_sound, put_shown, either_way, written}
use Rattle.guest_heap.proofs.KnownSteps.{known_put}
use Rattle.guest_heap.proofs.heap.Heap.put.Goals as goal

pub invariant_of-self-2 : goal.invariant_of-self-2
unfolding blocks_of
invariant_of-self-2 c =
    let e : Entry = c.args.entry in
    let old = c.args.self.now in
    let P : Entries → Type 0 = λ f. AreSound old.begin f (entries_of old.freed) (queued old.queue) old.first in
    record {
      grid = old.grid;
      some = old.some;
      within = old.within;
      sound = elim (either_way c.set.result c.set.ensures.ok c.set.ensures.err) [
        | inl h ↦ subst P (sym (written old.begin _ _ _ _ e h c.slot_of-slot.ensures
            (ap Some c.in_ok-shared.ensures.ok)))
            (put_sound old.begin old.grid _ _ _ _ old.sound e c.requires.live c.requires.place)
        | inr h ↦ subst P (sym h) old.sound
      ];
      numbered = old.numbered;
      volume = old.volume;
      known = (let Q : Blocks → Type 0 = λ bs. AreKnown bs old.redzone (bounds_in old.bounds) old.gaps in
          elim (either_way c.set.result c.set.ensures.ok c.set.ensures.err) [
            | inl h ↦ subst Q
                (sym (ap (λ f. shown old.begin f (queued old.queue))
                (written old.begin _ _ _ _ e h c.slot_of-slot.ensures (ap Some c.in_ok-shared.ensures.ok))
                ∙ put_shown old.begin old.grid _ _ _ _ old.sound e c.requires.live c.requires.place))
                (known_put (shown old.begin (entries_of old.live) (queued old.queue)) (block_of c.args.entry)
                old.redzone
                (bounds_in old.bounds) old.gaps c.requires.place old.known)
            | inr h ↦ subst Q (sym (ap (λ f. shown old.begin f (queued old.queue)) h)) old.known
          ]);
    }

pub returns-clause-ok : goal.returns-clause-ok
unfolding blocks_of
returns-clause-ok c =
    let e : Entry = c.args.entry in
    let old = c.args.self.now in
    ap (λ f. shown old.begin f (queued old.queue))
    (written old.begin _ _ _ _ e c.in_ok-set.ensures.ok c.slot_of-slot.ensures
    (ap Some c.in_ok-shared.ensures.ok))
    ∙ put_shown old.begin old.grid _ _ _ _ old.sound e c.requires.live c.requires.place
