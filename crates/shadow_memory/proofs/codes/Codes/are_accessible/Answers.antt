use Rattle.std.proofs.Common.{◌<◌, arith}
use Rattle.shadow_memory.specs.Codes.{code_at}
use Rattle.shadow_memory.proofs.Between.{holds-more}
use Rattle.shadow_memory.proofs.codes.Codes.are_accessible.Goals as goal

pub loop-at-preserved : goal.loop-at-preserved
loop-at-preserved c =
    holds-more (λ k. 0 < code_at c.args.self.now k) c.args.from c.loop-at.at c.loop-at.invariant
    (omega (arith, c.code.ensures.value))
