-- The entries of a leaf.
use Rattle.std.specs.Prelude.{None, slice_index_or}
use Rattle.guest_heap.specs.Entries.{Entries, entry_of}
use Rattle.guest_heap.specs.declared.table.leaf.Leaf.{Leaf}

unfoldable pub entries_in : Leaf → Entries
entries_in leaf = λ k. entry_of (slice_index_or leaf.slots.items k None)
