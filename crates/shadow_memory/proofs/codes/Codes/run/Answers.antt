use Rattle.std.proofs.Common.{◌≡◌, ◌∙◌, ◌≤◌, arith}
use Rattle.shadow_memory.specs.Codes.{code_at}
use Rattle.shadow_memory.proofs.Between.{holds-joins}
use Rattle.shadow_memory.proofs.codes.Codes.run.Goals as goal

pub loop-at-preserved : goal.loop-at-preserved
loop-at-preserved c =
    let start : c.args.from ≤ c.loop-at.at = c.loop-at.invariant.start in
    let on : c.loop-at.at ≤ c.run_some-next.result = c.run_some-next.ensures.on in
    let code = code_at c.args.self.now in
    record {
      start = omega arith;
      within = c.run_some-next.ensures.within;
      same =
          holds-joins (λ k. code k ≡ code c.args.from) c.args.from c.loop-at.at c.run_some-next.result
          c.loop-at.invariant.same
          (λ k low high. c.run_some-next.ensures.same k low high ∙ c.code-code.ensures.value);
    }
