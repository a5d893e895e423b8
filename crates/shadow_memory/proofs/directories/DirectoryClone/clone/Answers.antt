use Rattle.std.proofs.Common.{refl}
use Rattle.shadow_memory.specs.Directories.{cells_at}
use Rattle.shadow_memory.specs.declared.cells.RangeKind.TheVariants.{NoAccess}
use Rattle.shadow_memory.specs.declared.slots.PageSlot.TheVariants.{Blank}
use Rattle.shadow_memory.proofs.Clones.{same_slots, same_under}
use Rattle.shadow_memory.proofs.directories.DirectoryClone.clone.Goals as goal

pub returns : goal.returns
returns c = record {
  cases = same_under c.args.self.now _ refl
      (same_slots cells_at (Blank NoAccess) c.args.self.now.pages.items c.in_ok-pages.pages.items
      c.in_ok-pages.ensures.cases.0);
}
