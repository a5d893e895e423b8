use Rattle.std.proofs.Common.{◌≡◌, sym}
use Rattle.std.proofs.Math.Path.{transport}
use Rattle.std.specs.List.{AllZip}
use Rattle.shadow_memory.specs.Directories.{cells_at}
use Rattle.shadow_memory.specs.declared.cells.RangeKind.TheVariants.{NoAccess}
use Rattle.shadow_memory.specs.declared.slots.PageSlot.TheVariants.{Blank}
use Rattle.shadow_memory.proofs.Clones.{same_slots, same_under}
use Rattle.shadow_memory.proofs.directories.Directory.is_same.Goals as goal

pub returns : goal.returns
returns c same =
    let pages = transport (λ i. AllZip (λ part other. cells_at other ≡ cells_at part) (c.deref.ensures.value i)
    (c.deref-2.ensures.value i)) (c.are_same.ensures same) in
    same_under c.args.self.now c.args.other.now (sym c.if-self-other.false)
    (same_slots cells_at (Blank NoAccess) c.args.self.now.pages.items c.args.other.now.pages.items pages)
