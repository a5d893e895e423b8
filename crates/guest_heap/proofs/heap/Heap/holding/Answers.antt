use Rattle.std.proofs.Common.{inl, inr, ap, sym, subst, ◌∙◌, arith}
use Rattle.call_stacks.specs.declared.block.Block.{Block}
use Rattle.guest_heap.specs.Heaps.{blocks_of}
use Rattle.guest_heap.specs.Blocks.{IsKept, Holds, near_of}
use Rattle.guest_heap.specs.Tables.{entries_of}
use Rattle.guest_heap.specs.Queues.{queued}
use Rattle.guest_heap.specs.Entries.{block_of}
use Rattle.guest_heap.proofs.NearSteps.{one_holds, none_holds, near_block}
use Rattle.guest_heap.proofs.heap.Heap.holding.Goals as goal

pub returns-then-address-self-clause-only : goal.returns-then-address-self-clause-only
unfolding blocks_of
returns-then-address-self-clause-only c =
    none_holds _ (entries_of c.args.self.now.live) (entries_of c.args.self.now.freed) (queued c.args.self.now.queue)
    c.args.self.now.first c.args.self.now.sound
    c.args.address (inl c.if-address-self.true)

pub returns-then-low-end_of-clause-only : goal.returns-then-low-end_of-clause-only
unfolding blocks_of
returns-then-low-end_of-clause-only c =
    none_holds _ (entries_of c.args.self.now.live) (entries_of c.args.self.now.freed) (queued c.args.self.now.queue)
    c.args.self.now.first c.args.self.now.sound
    c.args.address (inr (omega (arith, c.from-low.ensures, c.end_of.ensures)))

pub returns-in-Some-clause-kept : goal.returns-in-Some-clause-kept
returns-in-Some-clause-kept c =
    let P : Block → Type 0 = λ b. IsKept (blocks_of c.args.self.now) b in
    subst P (sym (ap (λ near. near.block) c.near_of.ensures ∙ near_block (block_of c.in-Some.entry.now) c.args.address))
    c.in-Some.ensures.some

pub returns-in-Some-clause-only : goal.returns-in-Some-clause-only
unfolding blocks_of
returns-in-Some-clause-only c b kept holds =
    let low = c.from-low.ensures in
    let past = c.in-Some.ensures.meets.0 in
    let under = c.in-Some.ensures.meets.1 in
    let here : Holds (block_of c.in-Some.entry.now) c.args.address = (omega arith, omega arith) in
    ap (λ near. near.block) c.near_of.ensures ∙ near_block (block_of c.in-Some.entry.now) c.args.address
    ∙ one_holds _ (entries_of c.args.self.now.live) (entries_of c.args.self.now.freed) (queued c.args.self.now.queue)
    c.args.self.now.first c.args.self.now.sound
    c.args.address (block_of c.in-Some.entry.now) b c.in-Some.ensures.some kept here holds

pub returns-in-Some-clause-holds : goal.returns-in-Some-clause-holds
returns-in-Some-clause-holds c =
    let P : Block → Type 0 = λ b. Holds b c.args.address in
    let low = c.from-low.ensures in
    let past = c.in-Some.ensures.meets.0 in
    let under = c.in-Some.ensures.meets.1 in
    let here : Holds (block_of c.in-Some.entry.now) c.args.address = (omega arith, omega arith) in
    subst P (sym (ap (λ near. near.block) c.near_of.ensures
    ∙ near_block (block_of c.in-Some.entry.now) c.args.address)) here

pub returns-in-Some-clause-near : goal.returns-in-Some-clause-near
returns-in-Some-clause-near c =
    c.near_of.ensures ∙ ap (λ b. near_of b c.args.address)
    (sym (ap (λ near. near.block) c.near_of.ensures ∙ near_block (block_of c.in-Some.entry.now) c.args.address))

pub returns-in-None-clause-only : goal.returns-in-None-clause-only
returns-in-None-clause-only c b kept holds =
    let low = c.from-low.ensures in
    let under = holds.0 in
    let over = holds.1 in
    absurd (c.in-None.ensures.none b kept (omega arith, omega arith))
