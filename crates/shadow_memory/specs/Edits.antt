-- What a change does to consecutive cells.
use Rattle.std.specs.Prelude.{ℕ, length, slice_index, ◌+◌, ◌<◌, ◌≤◌, ◌≡◌}
use Rattle.shadow_memory.specs.Cells.{IsClean}
use Rattle.shadow_memory.specs.Marks.{blank, mark_of, marked}
use Rattle.shadow_memory.specs.Pages.{cells_in, AreWhole}
use Rattle.shadow_memory.specs.Places.{changed_from, page_len}
use Rattle.shadow_memory.specs.Changes.{filled, ranged, received, taken_cell}
use Rattle.shadow_memory.specs.declared.cells.Cell.{Cell}
use Rattle.shadow_memory.specs.declared.cells.RangeKind.{RangeKind}
use Rattle.shadow_memory.specs.declared.cells.RangeKind.TheVariants.{Undefined}
use Rattle.shadow_memory.specs.declared.edits.Each.{Each}
use Rattle.shadow_memory.specs.declared.edits.Each.TheVariants.{Make, Clear, Take}
use Rattle.shadow_memory.specs.declared.edits.PageEdit.{PageEdit}
use Rattle.shadow_memory.specs.declared.edits.PageEdit.TheVariants.{Set, All, Fill, Store, StoreUndefined, Copy}

-- a cell after a change that is the same for each of its range
unfoldable pub each_of : Each → Cell → Cell
each_of (Make kind) cell = ranged kind 0 cell
each_of Clear cell = filled (λ i. 0) 0 cell
each_of (Take kind) cell = taken_cell (blank kind) cell

-- the number of cells that change
unfoldable pub count_of : PageEdit → ℕ
count_of (Set cell) = 1
count_of (All count each) = count
count_of (Fill count bytes) = count
count_of (Store bytes) = length bytes.now
count_of (StoreUndefined bytes) = length bytes.now
count_of (Copy page place count) = count

-- the cell at an offset after a change
unfoldable pub change_of : PageEdit → ℕ → Cell → Cell
change_of (Set made) i cell = made
change_of (All count each) i cell = each_of each cell
change_of (Fill count bytes) i cell = filled (slice_index bytes.now) i cell
change_of (Store bytes) i cell = received (slice_index bytes.now) i cell
change_of (StoreUndefined bytes) i cell = taken_cell (marked (slice_index bytes.now i) (mark_of Undefined)) cell
change_of (Copy page place count) i cell = taken_cell (cells_in page.now (place + i)) cell

-- no inaccessible byte gets undefined bits, and what is copied lies in a page, with no partly defined byte
unfoldable pub Fits : PageEdit → Type 0
Fits (Set cell) = IsClean cell
Fits (All count each) = Unit {0}
Fits (Fill count bytes) = Unit {0}
Fits (Store bytes) = Unit {0}
Fits (StoreUndefined bytes) = Unit {0}
Fits (Copy page place count) = (place + count ≤ page_len) × AreWhole page.now.marks place (place + count)

-- a blank page is still blank after a change, of this kind
abbrev pub LeavesBlank : RangeKind → PageEdit → RangeKind → Type 0
LeavesBlank old edit kind =
    (at k : ℕ) → at + count_of edit ≤ page_len → k < page_len
    → changed_from (λ a. blank old) at (count_of edit) (change_of edit) k ≡ blank kind
