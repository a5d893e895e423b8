use Rattle.std.proofs.Common.{◌≡◌, ◌∙◌, ◌+◌, ◌-◌, ℕ, ap, arith}
use Rattle.shadow_memory.specs.Places.{changed_from}
use Rattle.shadow_memory.specs.Codes.{code_at}
use Rattle.shadow_memory.specs.Parts.{loaded_code, taken_code}
use Rattle.shadow_memory.proofs.codes.Codes.copy_some.Goals as goal

pub returns-then-from-ne0-clause-set : goal.returns-then-from-ne0-clause-set
returns-then-from-ne0-clause-set c = λ k.
    let change : ℕ → ℕ → ℕ = λ i old. taken_code (loaded_code (code_at c.args.source.now (c.args.from + i))) old in
    let all : 4 ≡ c.args.from + 4 - c.args.from = omega arith in
    c.copy_four.ensures k ∙ ap (λ n. changed_from (code_at c.args.self.now) c.args.at n change k) all
