use Rattle.std.proofs.Common.{◌≡◌, map, take}
use Rattle.std.specs.List.{filter}
use Rattle.guest_elf.specs.Defined.{symbol_content}
use Rattle.file_heaps.specs.FileHeaps.{is_doubtful}
use Rattle.file_heaps.proofs.heap.doubtful.Given as goal

abbrev pub invariant-loop-symbol : goal.invariant-loop-symbol
invariant-loop-symbol l =
    map symbol_content l.list.items
    ≡ filter (is_doubtful (map symbol_content l.symbols) l.except) (map symbol_content (take l.symbol-index l.symbols))
