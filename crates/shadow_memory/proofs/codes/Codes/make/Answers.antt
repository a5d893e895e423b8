use Rattle.std.proofs.Common.{◌≡◌, ◌∙◌, ◌≤◌, ℕ, ap, arith, cond}
use Rattle.shadow_memory.specs.Places.{is_between}
use Rattle.shadow_memory.specs.Codes.{code_at}
use Rattle.shadow_memory.proofs.Between.{between-joins}
use Rattle.shadow_memory.proofs.codes.Codes.make.Goals as goal

pub loop-at-preserved : goal.loop-at-preserved
loop-at-preserved c =
    let start : c.args.from ≤ c.loop-at.at = c.loop-at.invariant.start in
    let more : c.loop-at.at ≤ c.set_some-at.result = omega arith in
    record {
      start = omega arith;
      within = c.set_some-at.ensures.within;
      set =
          λ k. c.set_some-at.ensures.set k ∙ ap (λ (y : ℕ). cond (is_between c.loop-at.at c.set_some-at.result k)
          c.args.code y) (c.loop-at.invariant.set k)
          ∙ between-joins c.args.from c.loop-at.at c.set_some-at.result k c.args.code (code_at c.args.self.now k) start
          more;
    }

pub returns : goal.returns
returns c = λ k.
    let done : c.loop-at.at ≡ c.args.to = omega arith in
    c.loop-at.invariant.set k ∙ ap (λ (to : ℕ). cond (is_between c.args.from to k) c.args.code
    (code_at c.args.self.now k)) done
