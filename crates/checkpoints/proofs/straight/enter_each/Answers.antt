use Rattle.std.proofs.Common.{◌≡◌, ◌+◌, ◌∙◌, arith, subst}
use Rattle.checkpoints.specs.Extending.{Extends}
use Rattle.checkpoints.proofs.ExtendSteps.{extends-ahead, extends-then}
use Rattle.checkpoints.proofs.straight.enter_each.Goals as goal

pub loop-step-preserved : goal.loop-step-preserved
loop-step-preserved c =
    let inv = c.loop-step.invariant in
    let first = c.args.first in
    let i = c.loop-step.step in
    record {
      rows = c.enter_side.ensures.rows ∙ inv.rows;
      extends = λ start setup marks from straight.
          extends-then start setup marks first 4 from (from + i) (from + (i + 1)) _ _ _ inv.rows
          (inv.extends start setup marks from straight)
          (extends-ahead start setup marks first 4 from c.args.pc c.args.count i _ _ straight (omega arith)
          c.enter_side.ensures);
    }

pub returns-clause-extends : goal.returns-clause-extends
returns-clause-extends c start setup marks from straight =
    let all : c.loop-step.step ≡ c.args.count = omega arith in
    subst (λ n. Extends start setup marks from (from + n) c.args.first 4 c.args.table.now c.loop-step.table) all
    (c.loop-step.invariant.extends start setup marks from straight)
