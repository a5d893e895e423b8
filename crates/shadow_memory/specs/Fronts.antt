-- What a call over several cells did to two memories, the one before it and the one after, over the first few of them.
use Rattle.std.specs.Prelude.{ℕ, List, slice_index, ◌≡◌}
use Rattle.shadow_memory.specs.Changes.{received}
use Rattle.shadow_memory.specs.Ranges.{byte_of, changed_in, copied, written}
use Rattle.shadow_memory.specs.Shadows.{copied_undef, made_so, stored_undef}
use Rattle.shadow_memory.specs.Memories.{bytes_in, cells_of, shadows_in}
use Rattle.shadow_memory.specs.declared.cells.RangeKind.TheVariants.{Defined}
use Rattle.shadow_memory.specs.declared.memory.Memory.{Memory}
use Rattle.definedness.specs.declared.Bits.{Bits}

-- the low n bytes of a number were stored, with their undefined bits
abbrev pub HasStored : Memory → Memory → ℕ → ℕ → Bits → Type 0
HasStored old new start n bits =
    (bytes_in new ≡ written (bytes_in old) start n (byte_of bits.value))
    × (shadows_in new ≡ stored_undef (shadows_in old) start n bits.undef)

-- bytes were made accessible and defined, with these values and zeros after them
abbrev pub HasFilled : Memory → Memory → ℕ → ℕ → List ℕ → Type 0
HasFilled old new start n bytes =
    (bytes_in new ≡ written (bytes_in old) start n (slice_index bytes))
    × (shadows_in new ≡ made_so (shadows_in old) start n Defined)

-- defined bytes were stored
abbrev pub HasReceived : Memory → Memory → ℕ → ℕ → List ℕ → Type 0
HasReceived old new start n bytes =
    (bytes_in new ≡ written (bytes_in old) start n (slice_index bytes))
    × (shadows_in new ≡ stored_undef (shadows_in old) start n 0)

-- the same for cells, by the number of bytes
abbrev pub CellsReceived : Memory → Memory → ℕ → List ℕ → ℕ → Type 0
CellsReceived old new start bytes n = cells_of new ≡ changed_in (cells_of old) start n (received (slice_index bytes))

-- bytes were copied with their undefined bits
abbrev pub HasCopied : Memory → Memory → ℕ → ℕ → ℕ → Type 0
HasCopied old new from to n =
    (bytes_in new ≡ copied (bytes_in old) from to n) × (shadows_in new ≡ copied_undef (shadows_in old) from to n)
