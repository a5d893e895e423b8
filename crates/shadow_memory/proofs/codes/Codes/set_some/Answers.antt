use Rattle.std.proofs.Common.{◌∙◌, ap, cond, sym, Bool}
use Rattle.shadow_memory.specs.Codes.{code_at}
use Rattle.shadow_memory.proofs.Growing.{one-place}
use Rattle.shadow_memory.proofs.codes.Codes.set_some.Goals as goal

pub returns-else-at-eq0-clause-set : goal.returns-else-at-eq0-clause-set
returns-else-at-eq0-clause-set c =
    λ k. c.set.ensures k ∙ ap (λ (b : Bool). cond b c.args.code (code_at c.args.self.now k))
    (sym (one-place c.args.at k))
