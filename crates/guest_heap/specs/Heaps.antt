-- The blocks of a heap.
use Rattle.std.specs.Prelude.{ℕ}
use Rattle.guest_heap.specs.Blocks.{Blocks}
use Rattle.guest_heap.specs.Entries.{Entries}
use Rattle.guest_heap.specs.Tables.{entries_of}
use Rattle.guest_heap.specs.Queues.{queued}
use Rattle.guest_heap.specs.States.{shown}
use Rattle.guest_heap.specs.declared.heap.Heap.{Heap}

-- the blocks that a heap holds
unfoldable pub blocks_of : Heap → Blocks
blocks_of heap = shown heap.begin (entries_of heap.live) (queued heap.queue)

unfoldable pub live_in : Heap → Entries
live_in heap = entries_of heap.live

unfoldable pub freed_in : Heap → Entries
freed_in heap = entries_of heap.freed

unfoldable pub first_in : Heap → ℕ
first_in heap = heap.first

-- the redzone of the bounds
unfoldable pub redzone_in : Heap → ℕ
redzone_in heap = heap.redzone
