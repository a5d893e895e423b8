use Rattle.std.proofs.Common.{ℕ, ◌∙◌, ap, cond, unwrap_or}
use Rattle.std.specs.BTreeMap.{get}
use Rattle.std.specs.Ordering.{nat_cmp}
use Rattle.shadow_memory.specs.Places.{is_between}
use Rattle.shadow_memory.specs.Codes.{code_at}
use Rattle.shadow_memory.specs.Pages.{marks_mixed}
use Rattle.shadow_memory.specs.Parts.{loaded_code, taken_code}
use Rattle.shadow_memory.proofs.Taking.{taken-mark}
use Rattle.shadow_memory.proofs.marks.Mixed.take.Goals as goal

pub returns : goal.returns
unfolding marks_mixed
returns c =
    λ at. taken-mark (is_between c.args.from c.args.to at) c.args.kind (code_at c.args.self.now.codes at)
    (code_at c.take.new.self at) (unwrap_or (get nat_cmp c.args.self.now.partly at) 0)
    (c.take.ensures at
    ∙ ap (λ (m : ℕ). cond (is_between c.args.from c.args.to at) (taken_code m (code_at c.args.self.now.codes at))
    (code_at c.args.self.now.codes at))
    (c.loaded_code.ensures.value ∙ ap loaded_code c.code_of_kind.ensures.value))
