-- How the heap of a file is known by the symbols that the file defines, and whether its errors can be found in a run.
use Rattle.std.specs.Prelude.{ℕ, ◌+◌, ◌-◌, ◌==◌, ◌&&◌, ◌||◌, not, nat_lt, Bool, true, false, if◌then◌else◌, List, []}
use Rattle.std.specs.Prelude.{◌∷◌, ◌++◌, codes, filter, length, take}
use Rattle.std.specs.List.{flat_map, list_any}
use Rattle.std.specs.Str.{bytes_eq}
use Rattle.guest_elf.specs.Defined.{SymbolContent}
use Rattle.report_lines.specs.Text.{shown_name}
use Rattle.file_heaps.specs.Names.{heap_functions, is_allocator, is_among, is_likely, mapped_mark}
use Rattle.file_heaps.specs.declared.heap.Known.{Known}
use Rattle.file_heaps.specs.declared.heap.Sight.{Sight}
use Rattle.file_heaps.specs.declared.heap.Sight.TheVariants.{Seen, Partly, Unseen}

-- ---- one symbol among those of a file

-- is it a function that the machine takes over?
abbrev pub is_taken_over : SymbolContent → Bool
is_taken_over symbol = symbol.is_function && is_among 32 heap_functions symbol.name

-- does it say that the machine takes over what is at this address?
abbrev pub maps : ℕ → SymbolContent → Bool
maps address symbol =
    symbol.is_function && ((is_among 32 heap_functions symbol.name || bytes_eq symbol.name mapped_mark)
    && (symbol.address == address))

-- is it none of the names between commas that are no heap's, and does no symbol map it?
abbrev pub is_unknown : List SymbolContent → List ℕ → SymbolContent → Bool
is_unknown symbols except symbol =
    not (is_among 44 except symbol.name) && not (list_any (maps symbol.address) symbols)

-- a function that gives blocks of a real-time system's heap, and isn't mapped
abbrev pub is_unmapped : List SymbolContent → List ℕ → SymbolContent → Bool
is_unmapped symbols except symbol =
    (symbol.is_function && is_allocator symbol.name) && is_unknown symbols except symbol

-- another one whose name speaks of blocks; or a label with the name of a function of the heap, which isn't taken over
abbrev pub is_doubtful : List SymbolContent → List ℕ → SymbolContent → Bool
is_doubtful symbols except symbol =
    ((symbol.is_function && (is_likely symbol.name && not (is_allocator symbol.name)))
    || (not symbol.is_function && is_among 32 heap_functions symbol.name))
    && is_unknown symbols except symbol

abbrev pub unmapped : List SymbolContent → List ℕ → List SymbolContent
unmapped symbols except = filter (is_unmapped symbols except) symbols

abbrev pub doubtful : List SymbolContent → List ℕ → List SymbolContent
doubtful symbols except = filter (is_doubtful symbols except) symbols

-- ---- what is known

abbrev pub is_empty : List SymbolContent → Bool
is_empty symbols = length symbols == 0

abbrev pub known_of : List SymbolContent → List ℕ → Known
known_of symbols except = record {
  has_symbols = not (is_empty symbols);
  is_named = list_any is_taken_over symbols;
  has_unmapped = not (is_empty (unmapped symbols except));
  has_doubtful = not (is_empty (doubtful symbols except));
}

-- can errors of the heap be found, in a run that has called the heap or hasn't? Not where blocks of a real-time
-- system's heap aren't known; nor where neither a name nor the run shows a heap, and one may be there
abbrev pub sight_of : Known → Bool → Sight
sight_of known is_called =
    if known.has_unmapped then Unseen
    else if known.is_named || is_called then (if known.has_doubtful then Partly else Seen)
    else if not known.has_symbols || known.has_doubtful then Unseen
    else Seen

abbrev pub is_unseen : Sight → Bool
is_unseen Unseen = true
is_unseen _ = false

abbrev pub is_seen : Sight → Bool
is_seen Seen = true
is_seen _ = false

-- ---- the names of what isn't known

-- names with commas between them, as reports show them
unfoldable pub joined : List SymbolContent → List ℕ
joined [] = []
joined (first ∷ others) =
    shown_name first.name ++ flat_map (λ (symbol : SymbolContent). codes ", " ++ shown_name symbol.name) others

-- the first four of them
abbrev pub names_text : List SymbolContent → List ℕ
names_text symbols = joined (take 4 symbols) ++ (if nat_lt 4 (length symbols) then codes ", .." else [])

abbrev pub unknown_names : List SymbolContent → List ℕ → List ℕ
unknown_names symbols except =
    if is_empty (unmapped symbols except) then names_text (doubtful symbols except)
    else names_text (unmapped symbols except)
