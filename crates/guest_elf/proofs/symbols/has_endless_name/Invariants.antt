use Rattle.std.proofs.Common.{◌≡◌, ◌/◌}
use Rattle.std.specs.List.{list_any}
use Rattle.guest_elf.proofs.Counted.{items_after}
use Rattle.guest_elf.specs.Sections.{has_bad_name, strings_in, symbol_at, symbols_in}
use Rattle.guest_elf.proofs.symbols.has_endless_name.Given as goal

abbrev pub invariant-loop-index : goal.invariant-loop-index
invariant-loop-index l =
    list_any (has_bad_name (strings_in l.file l.table))
    (items_after (symbol_at l.file l.table) (l.table.size / 16) l.index)
    ≡ list_any (has_bad_name (strings_in l.file l.table)) (symbols_in l.file l.table)
