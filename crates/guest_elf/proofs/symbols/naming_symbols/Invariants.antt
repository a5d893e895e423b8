use Rattle.std.proofs.Common.{◌≡◌, ◌/◌, ◌++◌}
use Rattle.std.specs.List.{filter}
use Rattle.guest_elf.proofs.Counted.{items_after}
use Rattle.guest_elf.specs.Sections.{is_naming, strings_in, symbol_at, symbols_in}
use Rattle.guest_elf.proofs.symbols.naming_symbols.Given as goal

abbrev pub invariant-loop-index : goal.invariant-loop-index
invariant-loop-index l =
    l.symbols.items ++ filter (is_naming (strings_in l.file l.table))
    (items_after (symbol_at l.file l.table) (l.table.size / 16) l.index)
    ≡ filter (is_naming (strings_in l.file l.table)) (symbols_in l.file l.table)
