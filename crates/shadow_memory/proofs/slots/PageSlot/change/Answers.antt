use Rattle.std.proofs.Common.{◌∙◌, ap, sym}
use Rattle.shadow_memory.specs.Directories.{cells_at}
use Rattle.shadow_memory.specs.Edits.{change_of, count_of}
use Rattle.shadow_memory.specs.Marks.{blank}
use Rattle.shadow_memory.specs.Pages.{cells_in}
use Rattle.shadow_memory.specs.declared.pages.Page.{Page}
use Rattle.shadow_memory.specs.declared.slots.PageSlot.{PageSlot}
use Rattle.shadow_memory.proofs.Blanks.{all-cleared}
use Rattle.shadow_memory.proofs.slots.PageSlot.change.Goals as goal

pub returns-in-Some-clause-ok : goal.returns-in-Some-clause-ok
unfolding cells_at
returns-in-Some-clause-ok c =
    let n = count_of c.args.edit.now in
    let change = change_of c.args.edit.now in
    all-cleared (cells_at c.args.self.now) c.args.at n change (blank c.in-Some.kind) c.requires.within
    c.in-Some.ensures.whole
    (λ k low. ap (λ (s : PageSlot). change k (cells_at s k)) c.in-Held.is
    ∙ ap (λ (p : Page). change k (cells_in p k)) (sym c.deref.ensures) ∙ c.in-Some.ensures.zeros k low)
