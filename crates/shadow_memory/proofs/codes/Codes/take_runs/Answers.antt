use Rattle.std.proofs.Common.{◌≡◌, ◌∙◌, ◌≤◌, ap, arith, cond}
use Rattle.shadow_memory.specs.Places.{is_between}
use Rattle.shadow_memory.specs.Codes.{code_at}
use Rattle.shadow_memory.specs.Parts.{taken_code}
use Rattle.shadow_memory.proofs.Taking.{take-joins}
use Rattle.shadow_memory.proofs.codes.Codes.take_runs.Goals as goal

pub loop-at-preserved : goal.loop-at-preserved
loop-at-preserved c =
    let start : c.args.from ≤ c.loop-at.at = c.loop-at.invariant.start in
    let more : c.loop-at.at ≤ c.take_some-at.result = omega arith in
    record {
      start = omega arith;
      within = c.take_some-at.ensures.within;
      set =
          λ k. take-joins c.args.from c.loop-at.at c.take_some-at.result k c.args.made (code_at c.args.self.now k)
          (code_at c.loop-at.self k)
          (code_at c.take_some-at.new.self k) start more (c.loop-at.invariant.set k) (c.take_some-at.ensures.set k);
    }

pub returns : goal.returns
returns c = λ k.
    let done : c.loop-at.at ≡ c.args.to = omega arith in
    c.loop-at.invariant.set k ∙ ap (λ to. cond (is_between c.args.from to k)
    (taken_code c.args.made (code_at c.args.self.now k)) (code_at c.args.self.now k)) done
