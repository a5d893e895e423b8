use Rattle.std.proofs.Common.{◌∙◌, ◌-◌, ◌<◌, ap, arith}
use Rattle.shadow_memory.specs.Codes.{code_at}
use Rattle.shadow_memory.specs.Parts.{loaded_code}
use Rattle.shadow_memory.proofs.Taking.{run-copied}
use Rattle.shadow_memory.proofs.codes.Codes.copy_run.Goals as goal

pub returns-clause-set : goal.returns-clause-set
returns-clause-set c =
    λ k. run-copied c.args.at (c.run-end.result - c.args.from) c.args.from k c.loaded_code-made.result
    (code_at c.args.source.now) (code_at c.args.self.now)
    (code_at c.take.new.self)
    (λ j low high. let on : c.args.from < c.run-end.result = c.run-end.ensures.on in
    c.run-end.ensures.same j low (omega arith))
    (c.loaded_code-made.ensures.value ∙ ap loaded_code c.code.ensures.value) (c.take.ensures k)
