use Rattle.std.proofs.Common.{◌≡◌}
use Rattle.std.proofs.Math.Path.{transport}
use Rattle.std.specs.List.{AllZip}
use Rattle.shadow_memory.specs.TopDirectories.{cells_below}
use Rattle.shadow_memory.specs.declared.directory_slots.DirectorySlot.TheVariants.{Blank}
use Rattle.shadow_memory.proofs.Clones.{same_on, same_slots}
use Rattle.shadow_memory.proofs.top_directories.TopDirectoryHasCells.is_same.Goals as goal

pub returns : goal.returns
returns c same =
    let slots = transport (λ i. AllZip (λ part other. cells_below other ≡ cells_below part) (c.deref.ensures.value i)
    (c.deref-2.ensures.value i)) (c.are_same.ensures same) in
    same_on c.args.self.now c.args.other.now
    (same_slots cells_below Blank c.args.self.now.directories.items c.args.other.now.directories.items slots)
