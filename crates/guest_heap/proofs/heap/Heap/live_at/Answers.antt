use Rattle.std.proofs.Common.{sym, inl, inr, ◌≤◌, ℕ, subst}
use Rattle.guest_heap.specs.Heaps.{blocks_of}
use Rattle.guest_heap.specs.Tables.{entries_of}
use Rattle.guest_heap.specs.Queues.{queued}
use Rattle.guest_heap.proofs.FreeSteps.{none_outside}
use Rattle.guest_heap.proofs.heap.Heap.live_at.Goals as goal

pub returns-then-address-self : goal.returns-then-address-self
unfolding blocks_of
returns-then-address-self c =
    sym (none_outside _ (entries_of c.args.self.now.live) (entries_of c.args.self.now.freed)
    (queued c.args.self.now.queue) c.args.self.now.first c.args.address
    c.args.self.now.sound (inl c.if-address-self.true))

pub returns-then-slot_of-ge-SLOTS : goal.returns-then-slot_of-ge-SLOTS
unfolding blocks_of
returns-then-slot_of-ge-SLOTS c =
    sym (none_outside _ (entries_of c.args.self.now.live) (entries_of c.args.self.now.freed)
    (queued c.args.self.now.queue) c.args.self.now.first c.args.address
    c.args.self.now.sound (inr (let P : ℕ → Type 0 = λ n. 33554432 ≤ n in
    subst P c.slot_of.ensures c.if-slot_of-ge-SLOTS.true)))
