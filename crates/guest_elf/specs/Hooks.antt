-- The functions of the heap that a symbol table names, by their addresses.
-- Sources: ISO/IEC 9899 (C), 7.22.3 (the four functions); System V ABI, edition 4.1, chapter 4, "Symbol Table"
-- (st_value is a function's address).
use Rattle.std.specs.Prelude.{ℕ, ◌<◌, ◌==◌, nat_lt, if◌then◌else◌, List, [], ◌∷◌, length, get_or, Option, Some, None}
use Rattle.std.specs.Prelude.{codes}
use Rattle.std.specs.Str.{bytes_eq}
use Rattle.guest_elf.specs.Sections.{name_from}
use Rattle.guest_elf.specs.declared.hook.Hook.{Hook}
use Rattle.guest_elf.specs.declared.hook.Hook.TheVariants.{Malloc, Free, Calloc, Realloc}
use Rattle.guest_elf.specs.declared.symbols.Symbol.{Symbol}

-- the function of the heap whose name this is, byte for byte
unfoldable pub hook_named : List ℕ → Option Hook
hook_named name =
    if bytes_eq name (codes "malloc") then Some Malloc
    else if bytes_eq name (codes "free") then Some Free
    else if bytes_eq name (codes "calloc") then Some Calloc
    else if bytes_eq name (codes "realloc") then Some Realloc
    else None

-- addresses with functions in the order of the addresses, and another, which replaces one at its address
unfoldable pub hook_put : ℕ → Hook → List (ℕ × Hook) → List (ℕ × Hook)
hook_put address hook [] = (address, hook) ∷ []
hook_put address hook (entry ∷ entries) =
    if nat_lt address entry.0 then (address, hook) ∷ entry ∷ entries
    else if address == entry.0 then (address, hook) ∷ entries
    else entry ∷ hook_put address hook entries

-- a function put at an address, if there is one
abbrev pub hook_put_if : ℕ → Option Hook → List (ℕ × Hook) → List (ℕ × Hook)
hook_put_if address None entries = entries
hook_put_if address (Some hook) entries = hook_put address hook entries

-- the functions of the heap that symbols in the order of their table name: one at each address, that of the lowest
-- index
unfoldable pub hooks_by : List ℕ → List Symbol → List (ℕ × Hook)
hooks_by strings [] = []
hooks_by strings (symbol ∷ symbols) =
    hook_put_if symbol.value (hook_named (name_from strings symbol.name)) (hooks_by strings symbols)

-- each address is below those after it
unfoldable pub IsRising : List (ℕ × Hook) → Type 0
IsRising entries =
    (i j : ℕ) (d : ℕ × Hook) → i < j → j < length entries → (get_or entries i d).0 < (get_or entries j d).0

-- the function that begins at an address: the first one there
unfoldable pub hook_at : List (ℕ × Hook) → ℕ → Option Hook
hook_at [] address = None
hook_at (entry ∷ entries) address = if entry.0 == address then Some entry.1 else hook_at entries address
