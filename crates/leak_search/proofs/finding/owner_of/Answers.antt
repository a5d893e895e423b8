use Rattle.std.proofs.Common.{◌≡◌, Some, slice_get, arith, ap, sym, ◌∙◌}
use Rattle.std.proofs.lemmas.Option.{slice_get-get_or}
use Rattle.call_stacks.specs.declared.block.Block.{Block}
use Rattle.leak_search.proofs.FindSteps.{outside_none, outside_past, inside_is, across_is}
use Rattle.leak_search.proofs.finding.owner_of.Goals as goal

pub returns-in-None : goal.returns-in-None
returns-in-None c =
    outside_none c.args.blocks.now c.args.word c.requires.ordered c.requires.aligned c.in-None.ensures.none

pub returns-then-found-offset : goal.returns-then-found-offset
returns-then-found-offset c =
    let d : Block = c.index-blocks-block.result in
    let last = c.in-Some.ensures.some in
    let at : slice_get c.args.blocks.now c.in-Some.block ≡ Some d = slice_get-get_or c.args.blocks.now c.in-Some.block d
    last.within ∙ ap Some (sym c.index-blocks-block.is) in
    let here = last.here d at in
    outside_past c.args.blocks.now c.args.word c.in-Some.block _ c.requires.ordered c.requires.aligned last at
    (omega arith)

pub returns-then-found-offset-lt4 : goal.returns-then-found-offset-lt4
returns-then-found-offset-lt4 c =
    let d : Block = c.index-blocks-block.result in
    let last = c.in-Some.ensures.some in
    let at : slice_get c.args.blocks.now c.in-Some.block ≡ Some d = slice_get-get_or c.args.blocks.now c.in-Some.block d
    last.within ∙ ap Some (sym c.index-blocks-block.is) in
    let here = last.here d at in
    across_is c.args.blocks.now c.args.word c.in-Some.block _ c.requires.ordered last at here (omega arith)
    (omega arith)

pub returns-else-found-offset-lt4 : goal.returns-else-found-offset-lt4
returns-else-found-offset-lt4 c =
    let d : Block = c.index-blocks-block.result in
    let last = c.in-Some.ensures.some in
    let at : slice_get c.args.blocks.now c.in-Some.block ≡ Some d = slice_get-get_or c.args.blocks.now c.in-Some.block d
    last.within ∙ ap Some (sym c.index-blocks-block.is) in
    let here = last.here d at in
    inside_is c.args.blocks.now c.args.word c.in-Some.block _ c.requires.ordered last at here (omega arith)
