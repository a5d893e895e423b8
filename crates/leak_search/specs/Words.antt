-- Words: the four bytes at a multiple of 4, if all are accessible and defined (Memcheck manual, section 4.2, "Memory
-- leak detection": pointers are looked for in aligned words that are addressable and initialised).
use Rattle.std.specs.Prelude.{ℕ, ◌+◌, ◌%◌, ◌^◌, ◌==◌, ◌&&◌, nat_lt, if◌then◌else◌, Option, Some, None}
use Rattle.shadow_memory.specs.Ranges.{little_word}
use Rattle.shadow_memory.specs.Shadows.{Shadow, holds_word}

-- the value of the word at w, if there is one, given the byte at each address and its shadow
unfoldable pub word_at : (ℕ → ℕ) → (ℕ → Shadow) → ℕ → Option ℕ
word_at bytes shadows w =
    if nat_lt w (2 ^ 32) && (w % 4 == 0 && holds_word shadows w) then Some (little_word (λ i. bytes (w + i))) else None
