-- The contents of a memory, however it is kept: two functions of the address. Contracts speak only of `bytes_in` and
-- `shadows_in`.
use Rattle.std.specs.Prelude.{ℕ, ◌/◌, ◌%◌}
use Rattle.shadow_memory.specs.Cells.{shadow_in}
use Rattle.shadow_memory.specs.TopDirectories.{top_directory_of}
use Rattle.shadow_memory.specs.Shadows.{Shadow}
use Rattle.shadow_memory.specs.declared.cells.Cell.{Cell}
use Rattle.shadow_memory.specs.declared.memory.Memory.{Memory}

unfoldable pub cells_of : Memory → ℕ → Cell
cells_of memory = λ a. top_directory_of memory.tops.items (a / 134217728) (a % 134217728)

-- the byte at each address
unfoldable pub bytes_in : Memory → ℕ → ℕ
bytes_in memory = λ a. (cells_of memory a).byte

-- whether each address may be accessed, and its undefined bits
unfoldable pub shadows_in : Memory → ℕ → Shadow
shadows_in memory = λ a. shadow_in (cells_of memory a)
