use Rattle.shadow_memory.specs.TopDirectories.{cells_below}
use Rattle.shadow_memory.specs.declared.directory_slots.DirectorySlot.TheVariants.{Blank}
use Rattle.shadow_memory.proofs.Clones.{same_on, same_slots}
use Rattle.shadow_memory.proofs.top_directories.TopDirectoryClone.clone.Goals as goal

pub returns : goal.returns
returns c = record {
  cases = same_on c.args.self.now _ (same_slots cells_below Blank c.args.self.now.directories.items
      c.in_ok-directories.directories.items c.in_ok-directories.ensures.cases.0);
}
