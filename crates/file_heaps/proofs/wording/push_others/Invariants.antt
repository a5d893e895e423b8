use Rattle.std.proofs.Common.{◌≡◌, ◌++◌, map, take}
use Rattle.std.specs.Prelude.{codes}
use Rattle.std.specs.List.{flat_map}
use Rattle.guest_elf.specs.Defined.{SymbolContent, symbol_content}
use Rattle.report_lines.specs.Text.{shown_name}
use Rattle.file_heaps.proofs.wording.push_others.Given as goal

abbrev pub invariant-loop-symbol : goal.invariant-loop-symbol
invariant-loop-symbol l =
    l.text.items
    ≡ l.initial.text.items ++ flat_map (λ (symbol : SymbolContent). codes ", " ++ shown_name symbol.name)
    (map symbol_content (take l.symbol-index l.symbols))
