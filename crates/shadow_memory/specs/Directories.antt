-- The cells of 1,024 consecutive pages.
use Rattle.std.specs.Prelude.{ℕ, List, ◌-◌, ◌/◌, ◌%◌, nat_lt, if◌then◌else◌, slice_index_or}
use Rattle.shadow_memory.specs.Marks.{blank}
use Rattle.shadow_memory.specs.Pages.{cells_in}
use Rattle.shadow_memory.specs.Places.{page_len}
use Rattle.shadow_memory.specs.declared.cells.Cell.{Cell}
use Rattle.shadow_memory.specs.declared.cells.RangeKind.TheVariants.{NoAccess}
use Rattle.shadow_memory.specs.declared.directories.Directory.{Directory}
use Rattle.shadow_memory.specs.declared.slots.PageSlot.{PageSlot}
use Rattle.shadow_memory.specs.declared.slots.PageSlot.TheVariants.{Blank, Held}

unfoldable pub cells_at : PageSlot → ℕ → Cell
cells_at (Blank kind) = λ at. blank kind
cells_at (Held page) = cells_in page.value

-- the page with a number, if those from a first one on are kept, and the others are inaccessible zeros
abbrev pub page_of : ℕ → List PageSlot → ℕ → PageSlot
page_of first pages number =
    if nat_lt number first then Blank NoAccess else slice_index_or pages (number - first) (Blank NoAccess)

unfoldable pub page_at : Directory → ℕ → PageSlot
page_at directory number = page_of directory.first directory.pages.items number

unfoldable pub cells_under : Directory → ℕ → Cell
cells_under directory = λ a. cells_at (page_at directory (a / page_len)) (a % page_len)
