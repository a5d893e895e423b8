use Rattle.std.proofs.Common.{ℕ, Option, Some, None, List, subst, sym, ◌∙◌}
use Rattle.call_stacks.specs.declared.block.Block.{Block}
use Rattle.guest_heap.specs.Heaps.{blocks_of}
use Rattle.leak_search.specs.Gathering.{AreOrdered, GoesOn}
use Rattle.leak_search.proofs.LiveSteps.{found_start, found_next, found_end, found_ordered}
use Rattle.leak_search.proofs.blocks.live_blocks.Goals as goal

pub loop-blocks-init : goal.loop-blocks-init
loop-blocks-init c = rw c.new-blocks.ensures.items (found_start (blocks_of c.args.heap.now) c.live_goes_on.ensures)

pub loop-blocks-preserved : goal.loop-blocks-preserved
loop-blocks-preserved c =
    let blocks = blocks_of c.args.heap.now in
    let old = c.loop-blocks.blocks.items in
    let new = c.add_live.new.blocks.items in
    let goes : GoesOn blocks c.loop-blocks.from (Some c.in-Some.next) old new =
    subst (λ (o : Option ℕ). GoesOn blocks c.loop-blocks.from o old new) c.in-Some.is c.in_ok-next.ensures in
    found_next blocks old new c.loop-blocks.from c.in-Some.next c.live_goes_on.ensures c.in_region.ensures goes
    c.loop-blocks.invariant

pub returns-clause-all : goal.returns-clause-all
returns-clause-all c =
    let blocks = blocks_of c.args.heap.now in
    let old = c.loop-blocks.blocks.items in
    let new = c.add_live.new.blocks.items in
    let goes : GoesOn blocks c.loop-blocks.from None old new =
    subst (λ (o : Option ℕ). GoesOn blocks c.loop-blocks.from o old new) c.in_default.is c.in_ok-next.ensures in
    goes.1 ∙ found_end blocks old c.loop-blocks.from c.live_goes_on.ensures goes.0 c.loop-blocks.invariant

pub returns-clause-ordered : goal.returns-clause-ordered
returns-clause-ordered c =
    let blocks = blocks_of c.args.heap.now in
    let old = c.loop-blocks.blocks.items in
    let new = c.add_live.new.blocks.items in
    let goes : GoesOn blocks c.loop-blocks.from None old new =
    subst (λ (o : Option ℕ). GoesOn blocks c.loop-blocks.from o old new) c.in_default.is c.in_ok-next.ensures in
    subst (λ (x : List Block). AreOrdered x) (sym goes.1)
    (found_ordered blocks old c.loop-blocks.from c.in_region.ensures c.apart.ensures c.loop-blocks.invariant)
