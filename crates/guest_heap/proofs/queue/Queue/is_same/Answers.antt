use Rattle.std.proofs.Common.{◌≡◌, ◌∙◌, List, drop, map, ap, sym, arith, length, ap₂}
use Rattle.std.specs.declared.alloc.Global.{Global}
use Rattle.std.specs.declared.rc.Rc.{Rc}
use Rattle.call_stacks.specs.declared.block.Block.{Block}
use Rattle.guest_heap.specs.declared.entry.Entry.{Entry}
use Rattle.guest_heap.specs.Entries.{block_of}
use Rattle.guest_heap.specs.Runs.{values}
use Rattle.guest_heap.specs.Queues.{queued}
use Rattle.guest_heap.proofs.Comparing.{of-tail}
use Rattle.guest_heap.proofs.queue.Queue.is_same.Goals as goal

pub returns : goal.returns
unfolding queued
returns c same =
    let self = c.args.self.now in
    let other = c.args.other.now in
    let none : length self.runs.items ≡ 0 = omega (arith, c.len.ensures, c.if-len-gt0.false) in
    let none-there : length other.runs.items ≡ 0 = omega (arith, c.len-2.ensures, c.if-len-gt0-2.false) in
    let along = λ (tail : List (Rc Entry Global)). map block_of (values tail) in
    let blocks : along self.tail.items ≡ along other.tail.items = ap along (sym c.deref.ensures.value)
    ∙ c.are_same.ensures same ∙ ap along c.deref-2.ensures.value in
    of-tail self.runs.items self.tail.items self.skipped none
    ∙ ap₂ (λ n (bs : List Block). drop n bs) c.if-self-other.false blocks
    ∙ sym (of-tail other.runs.items other.tail.items other.skipped none-there)
