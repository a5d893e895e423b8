use Rattle.std.proofs.Common.{◌∙◌, ◌+◌, ◌≤◌, ◌<◌, ◌^◌, arith, sym}
use Rattle.shadow_memory.specs.Changes.{copied_cell}
use Rattle.shadow_memory.specs.Memories.{cells_of}
use Rattle.shadow_memory.proofs.Growing.{one-range, range-empty}
use Rattle.shadow_memory.proofs.Seen.{at_refusal}
use Rattle.shadow_memory.proofs.memory.Memory.copy_some.Goals as goal

pub returns-clause-ok : goal.returns-clause-ok
returns-clause-ok c =
    let n = c.in_ok-count.count in
    let few = c.in_ok-count.ensures.within in
    let small : c.args.to < 2 ^ 32 = omega arith in
    let inside : c.args.to + n ≤ 2 ^ 32 = omega arith in
    one-range (cells_of c.args.self.now) (cells_of c.copy_part.new.self) c.args.to n
    (copied_cell (cells_of c.args.self.now) c.args.from) inside small c.in_ok-count.ensures.ok

pub returns-in_err-count-clause-err : goal.returns-in_err-count-clause-err
returns-in_err-count-clause-err c =
    at_refusal c.from_residual-in_err-count.result (
      0,
      omega arith,
      c.in_err-count.ensures.err
          ∙ sym (range-empty (cells_of c.args.self.now) c.args.to (copied_cell (cells_of c.args.self.now) c.args.from)),
    )
