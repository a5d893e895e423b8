-- The functions and labels that a file defines, with their names.
-- Source: System V ABI, edition 4.1, chapter 4, "Symbol Table".
use Rattle.std.specs.Prelude.{ℕ, Bool, ◌||◌, is_some, if◌then◌else◌, List, [], filter, map, Option, Some, None}
use Rattle.guest_elf.specs.File.{early_refusal, has_bad_symbols}
use Rattle.guest_elf.specs.Sections.{is_function, is_label, name_from, strings_in, symbol_table, symbols_in}
use Rattle.guest_elf.specs.declared.defined.DefinedSymbol.{DefinedSymbol}
use Rattle.guest_elf.specs.declared.sections.SectionHeader.{SectionHeader}
use Rattle.guest_elf.specs.declared.symbols.Symbol.{Symbol}

-- what a caller sees of a symbol: its address, whether it is a function, and its name
pub record SymbolContent : Type 0 where
  pub address : ℕ
  pub is_function : Bool
  pub name : List ℕ

unfoldable pub symbol_content : DefinedSymbol → SymbolContent
symbol_content symbol =
    record { address = symbol.address; is_function = symbol.is_function; name = symbol.name.now }

-- the same, by a string table
unfoldable pub content_by : List ℕ → Symbol → SymbolContent
content_by strings symbol =
    record { address = symbol.value; is_function = is_function symbol; name = name_from strings symbol.name }

-- is it a function or a label?
unfoldable pub is_defined : Symbol → Bool
is_defined symbol = is_function symbol || is_label symbol

-- the functions and labels of a file's symbol table, if it has one, in the table's order
unfoldable pub defined_by : List ℕ → Option SectionHeader → List SymbolContent
defined_by file None = []
defined_by file (Some table) =
    map (content_by (strings_in file table)) (filter is_defined (symbols_in file table))

-- those of a file; none where its header, its tables or its symbols are bad
unfoldable pub defined_in : List ℕ → List SymbolContent
defined_in file =
    if is_some (early_refusal file) then []
    else if has_bad_symbols file then []
    else defined_by file (symbol_table file)
