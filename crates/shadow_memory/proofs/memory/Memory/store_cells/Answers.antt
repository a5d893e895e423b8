use Rattle.std.proofs.Common.{◌∙◌, ◌<◌, ◌^◌, arith, sym}
use Rattle.shadow_memory.specs.Changes.{stored}
use Rattle.shadow_memory.specs.Edits.{change_of, count_of}
use Rattle.shadow_memory.specs.Memories.{cells_of}
use Rattle.shadow_memory.proofs.Growing.{one-more, range-empty}
use Rattle.shadow_memory.proofs.memory.Memory.store_cells.Goals as goal

pub loop-i-preserved : goal.loop-i-preserved
unfolding count_of change_of
loop-i-preserved c =
    let small : c.args.addr < 2 ^ 32 = omega arith in
    let few : c.loop-i.i < 2 ^ 32 = omega arith in
    c.in_ok-change.ensures.ok
    ∙ one-more (cells_of c.args.self.now) (cells_of c.loop-i.self) c.args.addr c.loop-i.i (stored c.args.bits)
    c.cell-cell.result _ small few c.loop-i.invariant
    c.cell-cell.ensures.value c.stored_cell.ensures.value

pub loop-i-init : goal.loop-i-init
loop-i-init c = sym (range-empty (cells_of c.args.self.now) c.args.addr (stored c.args.bits))
