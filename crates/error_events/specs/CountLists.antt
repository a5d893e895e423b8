-- The list of the counts of a table.
use Rattle.std.specs.Prelude.{ℕ, List, ◌++◌, ◌<◌, vec_capacity, vec_len}
use Rattle.error_events.specs.Counts.{in_chunks}
use Rattle.error_events.specs.declared.counts.Counts.{Counts}

unfoldable pub counts_of : Counts → List ℕ
counts_of counts = in_chunks counts.chunks.items ++ counts.recent.items

-- another count needs no memory
unfoldable pub HasRoom : Counts → Type 0
HasRoom counts = vec_len counts.recent < vec_capacity counts.recent
