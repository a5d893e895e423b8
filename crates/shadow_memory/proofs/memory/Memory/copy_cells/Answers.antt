use Rattle.std.proofs.Common.{◌+◌, ◌-◌, ◌<◌, ◌≤◌, ◌^◌, arith, sym}
use Rattle.shadow_memory.specs.Changes.{copied_cell}
use Rattle.shadow_memory.specs.Memories.{cells_of}
use Rattle.shadow_memory.proofs.Copying.{copy-joins}
use Rattle.shadow_memory.proofs.Growing.{range-empty}
use Rattle.shadow_memory.proofs.Seen.{at_refusal}
use Rattle.shadow_memory.proofs.memory.Memory.copy_cells.Goals as goal

pub loop-done-preserved : goal.loop-done-preserved
loop-done-preserved c =
    let d = c.loop-done.done in
    let n = c.in_ok-count.count in
    let small : c.args.to < 2 ^ 32 = omega arith in
    let long : c.args.len < 2 ^ 32 = omega arith in
    let most : n ≤ c.args.len - d = c.in_ok-count.ensures.within in
    let before : d < c.args.len = omega arith in
    let within : d + n ≤ c.args.len = omega arith in
    record {
      within = within;
      cells =
          copy-joins (cells_of c.args.self.now) (cells_of c.loop-done.self) (cells_of c.copy_some.new.self) c.args.from
          c.args.to d n c.args.len small long
          within c.requires c.loop-done.invariant.cells c.in_ok-count.ensures.ok;
    }

pub returns-in_err-count-clause-err : goal.returns-in_err-count-clause-err
returns-in_err-count-clause-err c =
    let d = c.loop-done.done in
    let front = c.in_err-count.ensures.err in
    let small : c.args.to < 2 ^ 32 = omega arith in
    let long : c.args.len < 2 ^ 32 = omega arith in
    let fewer : front.0 < c.args.len - d = front.1 in
    let within : d + front.0 ≤ c.args.len = omega arith in
    at_refusal c.from_residual.result (
      d + front.0,
      omega arith,
      copy-joins (cells_of c.args.self.now) (cells_of c.loop-done.self) (cells_of c.copy_some.new.self) c.args.from
          c.args.to d front.0 c.args.len small long
          within c.requires c.loop-done.invariant.cells front.2,
    )

pub loop-done-init : goal.loop-done-init
loop-done-init c = record {
  within = omega arith;
  cells = sym (range-empty (cells_of c.args.self.now) c.args.to (copied_cell (cells_of c.args.self.now) c.args.from));
}
