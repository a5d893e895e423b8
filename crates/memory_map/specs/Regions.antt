-- The regions of memory that aren't a program's own: the heap's and the stack's. Each reaches from its begin up to, but
-- not including, its end.
use Rattle.std.specs.Prelude.{ℕ, ◌+◌, ◌%◌, ◌==◌, ◌&&◌, Bool, not, nat_le, nat_lt, max, min}
use Rattle.std.specs.Prelude.{Option, Some, None, if◌then◌else◌}
use Rattle.memory_map.specs.declared.regions.RegionsFault.{RegionsFault}
use Rattle.memory_map.specs.declared.regions.RegionsFault.TheVariants.{Heap, Stack, Meet}

-- where nothing is said of them
abbrev pub heap_begin : ℕ
heap_begin = 0x40000000

abbrev pub stack_begin : ℕ
stack_begin = 0x7F000000

abbrev pub stack_end : ℕ
stack_end = 0x80000000

-- the number of bytes that a program's start finds at its stack pointer, at the end of the stack's region
abbrev pub first_stack_bytes : ℕ
first_stack_bytes = 16

-- the number of bytes of the heap's region, wherever it begins
abbrev pub heap_size : ℕ
heap_size = 0x20000000

-- the greatest address at which it may begin, so that its end is an address too
abbrev pub greatest_heap_begin : ℕ
greatest_heap_begin = 0xD0000000

-- may the heap's region begin at an address?
unfoldable pub is_heap_begin : ℕ → Bool
is_heap_begin a = (a % 0x10000000 == 0) && (nat_le 0x10000000 a && nat_le a greatest_heap_begin)

-- the greatest end of the stack's region, which is an address too
abbrev pub greatest_stack_end : ℕ
greatest_stack_end = 0xFFFFF000

-- may the stack's region reach from one address to another?
unfoldable pub is_stack_region : ℕ → ℕ → Bool
is_stack_region begin end =
    (begin % 4096 == 0)
    && ((end % 4096 == 0)
    && (nat_le (begin + 65536) end && nat_le end greatest_stack_end))

-- has the heap's region an address of the stack's?
unfoldable pub overlap : ℕ → ℕ → ℕ → Bool
overlap heap begin end = nat_lt (max heap begin) (min (heap + heap_size) end)

-- the heap's region may begin there, the stack's may reach from there to there, and they have no address in common
abbrev pub are_regions : ℕ → ℕ → ℕ → Bool
are_regions heap begin end = is_heap_begin heap && (is_stack_region begin end && not (overlap heap begin end))

-- what is wrong with them, if anything is
unfoldable pub first_fault : ℕ → ℕ → ℕ → Option RegionsFault
first_fault heap begin end =
    if not (is_heap_begin heap) then Some Heap
    else if not (is_stack_region begin end) then Some Stack
    else if overlap heap begin end then Some Meet
    else None
