-- The cells of 32 consecutive directories.
use Rattle.std.specs.Prelude.{ℕ, List, map, ◌/◌, ◌%◌, slice_index_or}
use Rattle.shadow_memory.specs.Marks.{blank}
use Rattle.shadow_memory.specs.Directories.{cells_under}
use Rattle.shadow_memory.specs.declared.cells.Cell.{Cell}
use Rattle.shadow_memory.specs.declared.cells.RangeKind.TheVariants.{NoAccess}
use Rattle.shadow_memory.specs.declared.directory_slots.DirectorySlot.{DirectorySlot}
use Rattle.shadow_memory.specs.declared.directory_slots.DirectorySlot.TheVariants.{Blank, Held}
use Rattle.shadow_memory.specs.declared.top_directories.TopDirectory.{TopDirectory}

unfoldable pub cells_below : DirectorySlot → ℕ → Cell
cells_below Blank = λ at. blank NoAccess
cells_below (Held directory) = cells_under directory.value

unfoldable pub cells_on : TopDirectory → ℕ → Cell
cells_on top = λ a. cells_below (slice_index_or top.directories.items (a / 4194304) Blank) (a % 4194304)

-- the cells of the top directory with a number, if those from the end on are blank
abbrev pub top_directory_of : List TopDirectory → ℕ → ℕ → Cell
top_directory_of tops number = slice_index_or (map cells_on tops) number (λ at. blank NoAccess)
