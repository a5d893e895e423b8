use Rattle.std.proofs.Common.{◌≡◌, ◌/◌, ◌++◌, map}
use Rattle.std.specs.List.{filter}
use Rattle.guest_elf.proofs.Counted.{items_after}
use Rattle.guest_elf.specs.Defined.{content_by, is_defined, symbol_content}
use Rattle.guest_elf.specs.Sections.{strings_in, symbol_at, symbols_in}
use Rattle.guest_elf.proofs.defined.defined_by.Given as goal

abbrev pub invariant-loop-index : goal.invariant-loop-index
invariant-loop-index l =
    map symbol_content l.list.items
    ++ map (content_by (strings_in l.file l.table)) (filter is_defined (items_after (symbol_at l.file l.table)
    (l.table.size / 16) l.index))
    ≡ map (content_by (strings_in l.file l.table)) (filter is_defined (symbols_in l.file l.table))
