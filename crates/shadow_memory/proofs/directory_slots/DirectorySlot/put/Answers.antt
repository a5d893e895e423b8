use Rattle.std.proofs.Common.{◌∙◌, ap, sym}
use Rattle.shadow_memory.specs.Directories.{cells_under}
use Rattle.shadow_memory.specs.TopDirectories.{cells_below}
use Rattle.shadow_memory.proofs.directory_slots.DirectorySlot.put.Goals as goal

pub returns-clause-whole : goal.returns-clause-whole
unfolding cells_below
returns-clause-whole c done k low high =
    ap (λ slot. (cells_below slot k).accessible) c.in-Held.is
    ∙ ap (λ directory. (cells_under directory k).accessible) (sym c.in-Some.ensures.value)
    ∙ c.put.ensures.whole done k low high
