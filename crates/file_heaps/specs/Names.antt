-- Names of functions, and what they tell of a heap.
-- Sources: ISO/IEC 9899 (C), 7.22.3 (the functions of the heap), 7.1.3 (a name that begins with an underscore is the
-- implementation's own); the manuals of FreeRTOS, Zephyr, RT-Thread, ChibiOS, uC/OS, ThreadX, CMSIS-RTOS2, Mynewt,
-- ESP-IDF, TLSF, umm_malloc and o1heap (the functions by which each gives a block).
use Rattle.std.specs.Prelude.{ℕ, ◌==◌, ◌&&◌, ◌||◌, not, nat_eq, Bool, true, false, List, [], ◌∷◌, codes}
use Rattle.std.specs.List.{list_any, starts_with}
use Rattle.std.specs.Str.{bytes_eq}
use Rattle.texts.specs.Parts.{parts}

-- is a name one of those that a text lists, between separators?
unfoldable pub is_among : ℕ → List ℕ → List ℕ → Bool
is_among separator text name = list_any (bytes_eq name) (parts separator text)

-- do these bytes appear in a name?
unfoldable pub has_part : List ℕ → List ℕ → Bool
has_part part [] = starts_with nat_eq [] part
has_part part (byte ∷ rest) = starts_with nat_eq (byte ∷ rest) part || has_part part rest

-- the functions that the machine takes over
abbrev pub heap_functions : List ℕ
heap_functions = codes "malloc free calloc realloc"

-- the name that an adopted file gives to the places of other functions that lead to these
abbrev pub mapped_mark : List ℕ
mapped_mark = codes "__replaycheck_mapped"

-- functions that give a block of a heap of their own: of FreeRTOS and Zephyr
abbrev pub allocators_a : List ℕ
allocators_a =
    codes "pvPortMalloc pvPortCalloc k_malloc k_calloc k_aligned_alloc k_heap_alloc k_heap_aligned_alloc"

-- of RT-Thread, Zephyr's lower layer and Mynewt
abbrev pub allocators_b : List ℕ
allocators_b = codes "rt_malloc rt_calloc rt_memheap_alloc rt_mp_alloc sys_heap_alloc os_memblock_get"

-- of ChibiOS, uC/OS, ThreadX and CMSIS-RTOS2
abbrev pub allocators_c : List ℕ
allocators_c =
    codes "chHeapAlloc chHeapAllocAligned chPoolAlloc OSMemGet tx_byte_allocate tx_block_allocate osMemoryPoolAlloc"

-- of ESP-IDF, TLSF, umm_malloc and o1heap
abbrev pub allocators_d : List ℕ
allocators_d =
    codes "heap_caps_malloc tlsf_malloc tlsf_memalign umm_malloc umm_calloc umm_multi_malloc o1heapAllocate"

-- is it one of these?
abbrev pub is_allocator : List ℕ → Bool
is_allocator name =
    is_among 32 allocators_a name || (is_among 32 allocators_b name
    || (is_among 32 allocators_c name || is_among 32 allocators_d name))

-- functions of C libraries that give a block, under names of their own, and operators of C++ that do
abbrev pub library_allocators : List ℕ
library_allocators = codes "memalign _malloc_r _calloc_r _realloc_r _memalign_r _aligned_alloc_r _valloc_r _pvalloc_r"

abbrev pub operators : List ℕ
operators =
    codes "_Znwj _Znaj _ZnwjRKSt9nothrow_t _ZnajRKSt9nothrow_t _ZnwjSt11align_val_t _ZnajSt11align_val_t"

-- does a name begin with an underscore?
unfoldable pub is_reserved : List ℕ → Bool
is_reserved [] = false
is_reserved (byte ∷ rest) = byte == 95

-- has it `alloc` or `Alloc` in it, and isn't it a reserved one?
abbrev pub speaks_of_blocks : List ℕ → Bool
speaks_of_blocks name = (has_part (codes "alloc") name || has_part (codes "Alloc") name) && not (is_reserved name)

-- one of Rust's, `__rust_alloc` and the like, to which newer compilers add a front
abbrev pub is_rusts : List ℕ → Bool
is_rusts name = has_part (codes "__rust_alloc") name || has_part (codes "__rust_realloc") name

-- is it likely to give blocks?
abbrev pub is_likely : List ℕ → Bool
is_likely name =
    speaks_of_blocks name || (is_rusts name || (is_among 32 library_allocators name || is_among 32 operators name))
