use Rattle.std.proofs.Common.{◌∙◌, ap, cond}
use Rattle.shadow_memory.specs.Codes.{code_at}
use Rattle.shadow_memory.specs.Parts.{taken_code}
use Rattle.shadow_memory.specs.Places.{is_between}
use Rattle.shadow_memory.proofs.Taking.{run-taken}
use Rattle.shadow_memory.proofs.codes.Codes.take_some.Goals as goal

pub returns-clause-set : goal.returns-clause-set
returns-clause-set c =
    λ k. run-taken c.args.at c.run-end.result k (code_at c.args.self.now c.args.at) c.args.made
    (code_at c.args.self.now) (code_at c.make.new.self) c.run-end.ensures.same
    (c.make.ensures k ∙ ap (λ x. cond (is_between c.args.at c.run-end.result k) x (code_at c.args.self.now k))
    (c.taken_code-code.ensures.value ∙ ap (taken_code c.args.made) c.code.ensures.value))
