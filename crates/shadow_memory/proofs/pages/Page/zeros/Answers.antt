use Rattle.std.proofs.Common.{ℕ, ap₂}
use Rattle.std.proofs.lemmas.Option.{IfSome_then}
use Rattle.shadow_memory.specs.Marks.{marked}
use Rattle.shadow_memory.specs.Pages.{cells_in}
use Rattle.shadow_memory.specs.declared.cells.ByteShadow.{ByteShadow}
use Rattle.shadow_memory.proofs.pages.Page.zeros.Goals as goal

pub returns : goal.returns
unfolding cells_in
returns c = IfSome_then c.kind.result c.kind.ensures (λ kind is k low high.
    ap₂ (λ (b : ℕ) (m : ByteShadow). marked b m) (c.is_zero_in.ensures c.if-not-is_zero_in.false k low high)
    (is k low high))
