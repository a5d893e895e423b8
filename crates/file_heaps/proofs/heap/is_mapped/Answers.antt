use Rattle.std.proofs.Common.{◌∙◌, sym}
use Rattle.guest_elf.specs.Defined.{symbol_content}
use Rattle.file_heaps.specs.FileHeaps.{maps}
use Rattle.file_heaps.proofs.Lists.{any_map}
use Rattle.file_heaps.proofs.heap.is_mapped.Goals as goal

pub returns : goal.returns
returns c = c.has_map.ensures ∙ sym (any_map (maps c.args.address) symbol_content c.args.symbols.now)
