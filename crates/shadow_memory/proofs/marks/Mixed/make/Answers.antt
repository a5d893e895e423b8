use Rattle.std.proofs.Common.{ℕ, ◌∙◌, ap, cond, unwrap_or}
use Rattle.std.specs.BTreeMap.{get}
use Rattle.std.specs.Ordering.{nat_cmp}
use Rattle.shadow_memory.specs.Places.{is_between}
use Rattle.shadow_memory.specs.Codes.{code_at}
use Rattle.shadow_memory.specs.Pages.{marks_mixed}
use Rattle.shadow_memory.proofs.Between.{made-mark}
use Rattle.shadow_memory.proofs.marks.Mixed.make.Goals as goal

pub returns : goal.returns
unfolding marks_mixed
returns c =
    λ at. made-mark (is_between c.args.from c.args.to at) c.args.kind (code_at c.make.new.self at)
    (code_at c.args.self.now.codes at) (unwrap_or (get nat_cmp c.args.self.now.partly at) 0)
    (c.make.ensures at ∙ ap (λ (k : ℕ). cond (is_between c.args.from c.args.to at) k (code_at c.args.self.now.codes at))
    c.code_of_kind.ensures.value)
