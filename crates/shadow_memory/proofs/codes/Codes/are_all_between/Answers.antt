use Rattle.std.proofs.Common.{◌≡◌, ◌∙◌, inl, inr, arith, ap, sym}
use Rattle.std.proofs.lemmas.Bool.{cases_lt}
use Rattle.std.proofs.lemmas.Grind.{common_steps}
use Rattle.shadow_memory.specs.Codes.{code_at}
use Rattle.shadow_memory.proofs.codes.Codes.are_all_between.Goals as goal

pub loop-at-preserved : goal.loop-at-preserved
loop-at-preserved c = λ k start below. elim (cases_lt k c.loop-at.at) [
  | inl early ↦ c.loop-at.invariant k start early
  | inr late ↦
      let here : k ≡ c.loop-at.at = omega arith in
      let code : c.code.result ≡ c.args.code = grind (arith, common_steps) in
      ap (code_at c.args.self.now) here ∙ sym c.code.ensures.value ∙ code
]
