-- The cells of one page.
use Rattle.std.specs.Prelude.{ℕ, slice_index, unwrap_or, ◌<◌, ◌≤◌}
use Rattle.std.specs.BTreeMap.{get}
use Rattle.std.specs.Ordering.{nat_cmp}
use Rattle.shadow_memory.specs.Marks.{marked, mark_of}
use Rattle.shadow_memory.specs.Codes.{code_at}
use Rattle.shadow_memory.specs.Parts.{mark_by}
use Rattle.shadow_memory.specs.declared.cells.Cell.{Cell}
use Rattle.shadow_memory.specs.declared.cells.ByteShadow.{ByteShadow}
use Rattle.shadow_memory.specs.declared.marks.Mixed.{Mixed}
use Rattle.shadow_memory.specs.declared.marks.PageShadows.{PageShadows}
use Rattle.shadow_memory.specs.declared.marks.PageShadows.TheVariants.{Uniform, Mixed as AsMixed}
use Rattle.shadow_memory.specs.declared.pages.Page.{Page}

-- the mark of a place by its two bits, and for a partly defined byte by the side map
unfoldable pub marks_mixed : Mixed → ℕ → ByteShadow
marks_mixed mixed at = mark_by (code_at mixed.codes at) (unwrap_or (get nat_cmp mixed.partly at) 0)

unfoldable pub marks_in : PageShadows → ℕ → ByteShadow
marks_in (Uniform kind) at = mark_of kind
marks_in (AsMixed mixed) at = marks_mixed mixed at

-- no byte from one place up to, but not including, another is held as a partly defined one
unfoldable pub AreWhole : PageShadows → ℕ → ℕ → Type 0
AreWhole (Uniform kind) from to = Unit {0}
AreWhole (AsMixed mixed) from to = (at : ℕ) → from ≤ at → at < to → code_at mixed.codes at < 3

-- the cell at a place of the page
unfoldable pub cells_in : Page → ℕ → Cell
cells_in page at = marked (slice_index page.bytes.items at) (marks_in page.marks at)
