use Rattle.std.proofs.Common.{◌∙◌, ap, sym}
use Rattle.shadow_memory.specs.Directories.{cells_at}
use Rattle.shadow_memory.specs.Pages.{cells_in}
use Rattle.shadow_memory.proofs.slots.PageSlot.put.Goals as goal

pub returns-clause-whole : goal.returns-clause-whole
unfolding cells_at
returns-clause-whole c done k low high =
    ap (λ slot. (cells_at slot k).accessible) c.in-Held.is
    ∙ ap (λ page. (cells_in page k).accessible) (sym c.in-Some.ensures.value) ∙ c.put.ensures.whole done k low high
