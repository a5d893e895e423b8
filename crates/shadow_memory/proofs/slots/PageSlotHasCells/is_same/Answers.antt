use Rattle.std.proofs.Common.{◌≡◌, ◌∙◌, ap, sym}
use Rattle.std.proofs.Math.Path.{fun_ext}
use Rattle.shadow_memory.specs.Directories.{cells_at}
use Rattle.shadow_memory.specs.Pages.{cells_in}
use Rattle.shadow_memory.proofs.slots.PageSlotHasCells.is_same.Goals as goal

pub returns-in-Held-Held : goal.returns-in-Held-Held
unfolding cells_at
returns-in-Held-Held c same =
    let page = c.in-Held-Held.page.value in
    let another = c.in-Held-Held.another.value in
    let alike : cells_in another ≡ cells_in page = fun_ext (λ at.
    ap (λ p. cells_in p at) (sym c.deref-in-Held-Held.ensures) ∙ sym (c.is_same.ensures same at)
    ∙ ap (λ p. cells_in p at) c.deref.ensures) in
    ap cells_at c.in-Held-Held.is-1 ∙ alike ∙ sym (ap cells_at c.in-Held-Held.is-0)
