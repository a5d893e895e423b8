use Rattle.std.proofs.Common.{◌≡◌, ◌∙◌, ◌+◌, ◌≤◌, ap, arith, cond}
use Rattle.shadow_memory.specs.Places.{is_between}
use Rattle.shadow_memory.specs.Codes.{code_at}
use Rattle.shadow_memory.specs.Parts.{taken_code}
use Rattle.shadow_memory.proofs.Taking.{one-taken, take-joins}
use Rattle.shadow_memory.proofs.codes.Codes.take_each.Goals as goal

pub loop-at-preserved : goal.loop-at-preserved
loop-at-preserved c =
    let at = c.loop-at.at in
    let start : c.args.from ≤ at = omega arith in
    let more : at ≤ at + 1 = omega arith in
    λ k. take-joins c.args.from at (at + 1) k c.args.made (code_at c.args.self.now k) (code_at c.loop-at.self k)
    (code_at c.set.new.self k) start more (c.loop-at.invariant k)
    (one-taken at k c.taken_code-code.result c.args.made (code_at c.loop-at.self) (code_at c.set.new.self)
    (c.taken_code-code.ensures.value ∙ ap (taken_code c.args.made) c.code.ensures.value) (c.set.ensures k))

pub returns : goal.returns
returns c = λ k.
    let done : c.loop-at.at ≡ c.args.to = omega arith in
    c.loop-at.invariant k ∙ ap (λ to. cond (is_between c.args.from to k)
    (taken_code c.args.made (code_at c.args.self.now k)) (code_at c.args.self.now k)) done
