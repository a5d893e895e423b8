use Rattle.std.proofs.Common.{◌-◌, arith}
use Rattle.std.proofs.lemmas.Result.{on_ok_weaker}
use Rattle.guest_heap.specs.Heaps.{blocks_of}
use Rattle.look_lines.specs.Lists.{most_blocks}
use Rattle.look_lines.proofs.Blocks.{listed-all, longer-front, no-front, none-left, rest-left}
use Rattle.look_lines.proofs.lists.push_kept.Goals as goal

pub loop-i-init : goal.loop-i-init
loop-i-init c = no-front (blocks_of c.args.heap.now) c.args.from c.args.out.now.items

pub loop-i-preserved : goal.loop-i-preserved
loop-i-preserved c =
    longer-front (blocks_of c.args.heap.now) c.args.from c.loop-i.at c.loop-i.i c.args.out.now.items
    c.loop-i.out.items _ c.in-Some.block c.loop-i.invariant c.in-Some.ensures.some c.in_ok-push_block.ensures

pub returns-in_default : goal.returns-in_default
returns-in_default c =
    let blocks = blocks_of c.args.heap.now in
    on_ok_weaker c.push_blocks_end.result (λ more. listed-all blocks c.args.from c.loop-i.at c.loop-i.i
    (most_blocks - c.loop-i.i) c.args.out.now.items c.loop-i.out.items _ _ c.loop-i.invariant (omega arith)
    (none-left blocks c.loop-i.at (most_blocks - c.loop-i.i) c.in_default.ensures.none) more) c.push_blocks_end.ensures

pub returns : goal.returns
returns c =
    let blocks = blocks_of c.args.heap.now in
    on_ok_weaker c.push_blocks_end-2.result (λ more. listed-all blocks c.args.from c.loop-i.at c.loop-i.i 0
    c.args.out.now.items c.loop-i.out.items _ _ c.loop-i.invariant (omega arith)
    (rest-left blocks c.loop-i.at c.kept-2.result c.start_of.result c.start_of.ensures c.kept-2.ensures.some
    c.kept-2.ensures.none) more) c.push_blocks_end-2.ensures
