use Rattle.std.proofs.Common.{◌∙◌, sym}
use Rattle.guest_elf.specs.Defined.{symbol_content}
use Rattle.file_heaps.specs.FileHeaps.{is_taken_over}
use Rattle.file_heaps.proofs.Lists.{any_map}
use Rattle.file_heaps.proofs.heap.is_named.Goals as goal

pub returns : goal.returns
returns c = c.has_taken_over.ensures ∙ sym (any_map is_taken_over symbol_content c.args.symbols.now)
