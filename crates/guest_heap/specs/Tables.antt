-- The entries of a table, which is a row of 128 rows of 64 rows of 64 leaves.
use Rattle.guest_heap.specs.Entries.{Entries, entries_at}
use Rattle.guest_heap.specs.Leaves.{entries_in}
use Rattle.guest_heap.specs.Rows.{entries_along}
use Rattle.guest_heap.specs.Sizes.{places_of}
use Rattle.guest_heap.specs.declared.table.leaf.Leaf.{Leaf}
use Rattle.guest_heap.specs.declared.table.row.Row.{Row}
use Rattle.guest_heap.specs.declared.table.Table.{Table}

unfoldable pub entries_in_root : Row (Row (Row Leaf)) → Entries
entries_in_root =
    entries_along (places_of (places_of 64)) (entries_along (places_of 64) (entries_along 64 entries_in))

unfoldable pub entries_of : Table → Entries
entries_of table = entries_at entries_in_root table.root
