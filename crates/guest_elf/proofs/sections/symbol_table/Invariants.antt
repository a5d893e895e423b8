use Rattle.std.proofs.Common.{◌≡◌}
use Rattle.std.specs.List.{find}
use Rattle.guest_elf.proofs.Counted.{items_after}
use Rattle.guest_elf.specs.Sections.{is_symbol_table, section_at, section_count, sections_of}
use Rattle.guest_elf.proofs.sections.symbol_table.Given as goal

abbrev pub invariant-loop-index : goal.invariant-loop-index
invariant-loop-index l =
    find is_symbol_table (items_after (section_at l.file) (section_count l.file) l.index)
    ≡ find is_symbol_table (sections_of l.file)
