-- The name of the function at an address, by symbols in the order of their table and by their string table.
-- Source: System V ABI, edition 4.1, chapter 4, "Symbol Table" (st_value is an address, st_size 0 an unknown size).
use Rattle.std.specs.Prelude.{ℕ, ◌+◌, ◌&&◌, ◌||◌, ◌==◌, nat_le, nat_lt, if◌then◌else◌, List, [], ◌∷◌, Option, Some}
use Rattle.std.specs.Prelude.{None, codes}
use Rattle.guest_elf.specs.Sections.{name_from}
use Rattle.guest_elf.specs.declared.names.FunctionNames.{FunctionNames}
use Rattle.guest_elf.specs.declared.symbols.Symbol.{Symbol}

-- the nearer of a symbol and the one that later symbols of the table give: the one with the greater st_value not above
-- the address, and the earlier of equals
unfoldable pub nearer : ℕ → Symbol → Option Symbol → Option Symbol
nearer address symbol None = if nat_le symbol.value address then Some symbol else None
nearer address symbol (Some later) =
    if nat_le symbol.value address && nat_le later.value symbol.value then Some symbol else Some later

-- the symbol with the greatest st_value not above the address, among equals the one with the lowest index
unfoldable pub nearest : List Symbol → ℕ → Option Symbol
nearest [] address = None
nearest (symbol ∷ symbols) address = nearer address symbol (nearest symbols address)

-- its name, if its size is unknown or the address is one of its addresses; otherwise, and if there is no symbol, `???`
unfoldable pub name_by : List ℕ → ℕ → Option Symbol → List ℕ
name_by strings address None = codes "???"
name_by strings address (Some symbol) =
    if symbol.size == 0 || nat_lt address (symbol.value + symbol.size) then name_from strings symbol.name
    else codes "???"

-- the name that symbols in any order and their string table give to an address
unfoldable pub named_by : FunctionNames → ℕ → List ℕ
named_by names address = name_by names.strings.now address (nearest names.symbols.items address)
