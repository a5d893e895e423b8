use Rattle.std.proofs.Common.{get_or, ap, sym, ◌∙◌, arith}
use Rattle.std.proofs.lemmas.Option.{same_Some, slice_get-get_or}
use Rattle.call_stacks.specs.declared.block.Block.{Block}
use Rattle.leak_search.proofs.FindSteps.{points_below, points_past, finds_start, finds_inside}
use Rattle.leak_search.proofs.finding.pointer_to.Goals as goal

pub returns-in-None-clause-none : goal.returns-in-None-clause-none
returns-in-None-clause-none c = points_below c.args.blocks.now c.args.value c.in-None.ensures.none

pub returns-then-offset-eq0-clause-some : goal.returns-then-offset-eq0-clause-some
returns-then-offset-eq0-clause-some c =
    let blocks = c.args.blocks.now in
    let k = c.in-Some.block in
    let last = c.in-Some.ensures.some in
    let block : Block = get_or blocks k c.index-blocks-block.result in
    let at = slice_get-get_or blocks k c.index-blocks-block.result last.within in
    let low = last.here block at in
    finds_start blocks c.args.value k block c.requires last at (omega arith)

pub returns-then-offset-blocks-clause-some : goal.returns-then-offset-blocks-clause-some
returns-then-offset-blocks-clause-some c =
    let blocks = c.args.blocks.now in
    let k = c.in-Some.block in
    let last = c.in-Some.ensures.some in
    let block : Block = get_or blocks k c.index-blocks-block.result in
    let also : Block = get_or blocks k c.index-blocks-block-else-offset-eq0.result in
    let at = slice_get-get_or blocks k c.index-blocks-block.result last.within in
    let size = ap (λ (b : Block). b.size) (same_Some block also (sym at
    ∙ slice_get-get_or blocks k c.index-blocks-block-else-offset-eq0.result last.within)) in
    let low = last.here block at in
    finds_inside blocks c.args.value k block c.requires last at (omega arith) (omega arith)

pub returns-else-offset-blocks-clause-none : goal.returns-else-offset-blocks-clause-none
returns-else-offset-blocks-clause-none c =
    let blocks = c.args.blocks.now in
    let k = c.in-Some.block in
    let last = c.in-Some.ensures.some in
    let block : Block = get_or blocks k c.index-blocks-block.result in
    let also : Block = get_or blocks k c.index-blocks-block-else-offset-eq0.result in
    let at = slice_get-get_or blocks k c.index-blocks-block.result last.within in
    let size = ap (λ (b : Block). b.size) (same_Some block also (sym at
    ∙ slice_get-get_or blocks k c.index-blocks-block-else-offset-eq0.result last.within)) in
    let low = last.here block at in
    points_past blocks c.args.value k block c.requires last at (λ e. c.if-offset-eq0.false (omega arith)) (omega arith)
