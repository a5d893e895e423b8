use Rattle.std.proofs.Common.{◌+◌, ◌%◌, ◌-◌, ◌∙◌, Some, ap, arith, refl}
use Rattle.shadow_memory.specs.Memories.{cells_of, shadows_in}
use Rattle.shadow_memory.specs.Ranges.{above}
use Rattle.shadow_memory.specs.Views.{cells_seen}
use Rattle.shadow_memory.specs.declared.cells.Cell.{Cell}
use Rattle.shadow_memory.proofs.Searching.{fine-more, found-bad, found-none}
use Rattle.shadow_memory.proofs.memory.Memory.first_bad.Goals as goal

pub returns-in-Some : goal.returns-in-Some
unfolding shadows_in
returns-in-Some c =
    let d = c.loop-done.done in
    let n = c.count_in_page-count.result in
    let at = above c.args.addr d in
    ap (λ (cell : Cell). Some (record { addr = at - at % 4096 + c.in-Some.found; accessible = cell.accessible }))
    c.cell-accessible.ensures.value
    ∙ found-bad (cells_of c.args.self.now) (cells_seen c.view-view.result) c.args.addr d at n c.args.need_defined refl
    c.count_in_page-count.ensures.one_page
    c.view-view.ensures c.args.len c.in-Some.found (omega arith) c.in-Some.ensures.some c.loop-done.invariant.fine

pub loop-done-preserved : goal.loop-done-preserved
unfolding shadows_in
loop-done-preserved c =
    let d = c.loop-done.done in
    let n = c.count_in_page-count.result in
    let at = above c.args.addr d in
    record {
      within = omega arith;
      fine =
          fine-more (cells_of c.args.self.now) (cells_seen c.view-view.result) c.args.addr d at n c.args.need_defined
          refl
          c.count_in_page-count.ensures.one_page c.view-view.ensures c.in_default.ensures.none
          c.loop-done.invariant.fine;
    }

pub returns : goal.returns
returns c =
    found-none (shadows_in c.args.self.now) c.args.addr c.args.len c.loop-done.done c.args.need_defined (omega arith)
    c.loop-done.invariant.fine
