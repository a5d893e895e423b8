use Rattle.std.proofs.Common.{◌<◌, ◌≤◌, arith}
use Rattle.shadow_memory.specs.Codes.{code_at}
use Rattle.shadow_memory.proofs.Between.{holds-joins}
use Rattle.shadow_memory.proofs.codes.Codes.whole_end.Goals as goal

pub loop-at-preserved : goal.loop-at-preserved
loop-at-preserved c =
    let start : c.args.from ≤ c.loop-at.at = c.loop-at.invariant.start in
    let on : c.loop-at.at ≤ c.whole_some-next.result = c.whole_some-next.ensures.on in
    record {
      start = omega arith;
      within = c.whole_some-next.ensures.within;
      whole =
          holds-joins (λ k. code_at c.args.self.now k < 3) c.args.from c.loop-at.at c.whole_some-next.result
          c.loop-at.invariant.whole c.whole_some-next.ensures.whole;
    }
