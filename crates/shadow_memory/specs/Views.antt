-- One page of a memory, as it is seen.
use Rattle.std.specs.Prelude.{ℕ}
use Rattle.shadow_memory.specs.Marks.{blank}
use Rattle.shadow_memory.specs.Pages.{cells_in}
use Rattle.shadow_memory.specs.declared.cells.Cell.{Cell}
use Rattle.shadow_memory.specs.declared.views.View.{View}
use Rattle.shadow_memory.specs.declared.views.View.TheVariants.{Blank, Held}

unfoldable pub cells_seen : View → ℕ → Cell
cells_seen (Blank kind) = λ at. blank kind
cells_seen (Held page) = cells_in page.now
