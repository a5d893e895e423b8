-- Counts in chunks, and in a list after the chunks.
use Rattle.std.specs.Prelude.{◌≡◌, ℕ, ◌+◌, List, [], ◌∷◌, ◌++◌, length, map, min, replicate, slice_index, slice_set}
use Rattle.std.specs.declared.rc.Rc.{Rc}
use Rattle.std.specs.declared.vec.Vec.{Vec}
use Rattle.std.specs.declared.alloc.Global.{Global}
use Rattle.error_events.specs.Groups.{most}

abbrev pub Chunk : Type 0
Chunk = Rc (Vec ℕ Global) Global

-- the counts of chunks, one chunk after another
unfoldable pub in_chunks : List Chunk → List ℕ
in_chunks [] = []
in_chunks (chunk ∷ chunks) = chunk.value.items ++ in_chunks chunks

-- each chunk has 256 counts
abbrev pub AreFull : List Chunk → Type 0
AreFull chunks = map (λ chunk. length chunk.value.items) chunks ≡ replicate (length chunks) 256

-- counts, one of which is raised by a number, at most to the greatest number
abbrev pub raised_at : List ℕ → ℕ → ℕ → List ℕ
raised_at counts i by = slice_set counts i (min (slice_index counts i + by) most)
