use Rattle.std.proofs.Common.{inl, inr, None, length, ap, ◌∙◌, arith}
use Rattle.guest_heap.specs.Heaps.{blocks_of}
use Rattle.guest_heap.specs.Entries.{with_entry}
use Rattle.guest_heap.specs.States.{volume_in}
use Rattle.guest_heap.specs.Tables.{entries_of}
use Rattle.guest_heap.specs.Queues.{queued}
use Rattle.guest_heap.proofs.PutSteps.{either_way}
use Rattle.guest_heap.proofs.FreeSteps.{front_low, front_volume, front_length, forget_sound}
use Rattle.guest_heap.proofs.KnownSteps.{known_forgotten}
use Rattle.guest_heap.proofs.heap.Heap.forget_oldest.Goals as goal

pub overflow_sub-self : goal.overflow_sub-self
overflow_sub-self c =
    let old = c.args.self.now in
    omega (arith, front_volume (queued old.queue) c.in-Some.entry.now c.in-Some.ensures, old.volume, c.from.ensures)

pub end_below-requires-clause-above : goal.end_below-requires-clause-above
end_below-requires-clause-above c =
    let old = c.args.self.now in
    let placed = front_low old.begin (entries_of old.live) (entries_of old.freed) (queued old.queue) old.first
    c.in-Some.entry.now old.sound c.in-Some.ensures in
    omega (arith, placed.low)

pub end_below-requires-clause-below : goal.end_below-requires-clause-below
end_below-requires-clause-below c =
    let old = c.args.self.now in
    let placed = front_low old.begin (entries_of old.live) (entries_of old.freed) (queued old.queue) old.first
    c.in-Some.entry.now old.sound c.in-Some.ensures in
    omega (arith, placed.high)

pub begin_above-end-requires-clause-above : goal.begin_above-end-requires-clause-above
begin_above-end-requires-clause-above c =
    let old = c.args.self.now in
    let placed = front_low old.begin (entries_of old.live) (entries_of old.freed) (queued old.queue) old.first
    c.in-Some.entry.now old.sound c.in-Some.ensures in
    omega (arith, placed.low)

pub begin_above-end-requires-clause-below : goal.begin_above-end-requires-clause-below
begin_above-end-requires-clause-below c =
    let old = c.args.self.now in
    let placed = front_low old.begin (entries_of old.live) (entries_of old.freed) (queued old.queue) old.first
    c.in-Some.entry.now old.sound c.in-Some.ensures in
    omega (arith, placed.high)

pub slot_of-requires : goal.slot_of-requires
slot_of-requires c =
    let old = c.args.self.now in
    let placed = front_low old.begin (entries_of old.live) (entries_of old.freed) (queued old.queue) old.first
    c.in-Some.entry.now old.sound c.in-Some.ensures in
    omega (arith, placed.low)

pub set-requires : goal.set-requires
set-requires c =
    let old = c.args.self.now in
    let placed = front_low old.begin (entries_of old.live) (entries_of old.freed) (queued old.queue) old.first
    c.in-Some.entry.now old.sound c.in-Some.ensures in
    omega (arith, placed.start, placed.high, c.slot_of.ensures)

pub invariant_of-self : goal.invariant_of-self
unfolding blocks_of
invariant_of-self c =
    let old = c.args.self.now in
    let e = c.in-Some.entry.now in
    let sizes = front_volume (queued old.queue) e c.in-Some.ensures in
    let lengths = front_length (queued old.queue) e c.in-Some.ensures in
    let rest = ap length c.pop_front.ensures in
    let volumes = ap volume_in c.pop_front.ensures in
    record {
      grid = old.grid;
      some = old.some;
      within = old.within;
      sound =
          forget_sound old.begin (entries_of old.live) (entries_of old.freed) (entries_of c.set.new.self)
          (queued old.queue) (queued c.pop_front.new.self) old.first e old.sound c.in-Some.ensures c.pop_front.ensures
          (elim (either_way c.set.result c.set.ensures.ok c.set.ensures.err)
          [ inl h ↦ inl (h ∙ ap (λ n. with_entry (entries_of old.freed) n None) c.slot_of.ensures) | inr h ↦ inr h ]);
      numbered = omega (arith, old.numbered, lengths, rest);
      volume = omega (arith, old.volume, sizes, volumes, c.from.ensures);
      known =
          known_forgotten old.begin (entries_of old.live) (entries_of old.freed) (queued old.queue)
          (queued c.pop_front.new.self) old.first old.sound e c.in-Some.ensures c.pop_front.ensures
          old.redzone c.end_below.result (record {
            first = c.aligned-first.result;
            end = c.begin_above-end.result;
            room = c.saturating_sub-room.result;
          })
          c.end_below.ensures.end c.begin_above-end.ensures.begin c.aligned-first.ensures.multiple (omega arith)
          (omega arith) _ _ _ _ c.lower.ensures c.raise.ensures old.known;
    }
