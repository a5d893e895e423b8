-- What an address holds, and a change of one address.
use Rattle.std.specs.Prelude.{ℕ, IsTrue, not, ◌==◌, ◌≡◌, if◌then◌else◌}
use Rattle.shadow_memory.specs.Shadows.{Shadow}
use Rattle.shadow_memory.specs.declared.cells.Cell.{Cell}

-- what is known of a cell besides its byte
abbrev pub shadow_in : Cell → Shadow
shadow_in cell = record { accessible = cell.accessible; undef = cell.undef }

-- a function of the address, with one place changed
abbrev pub set_at : {X : Type 0} → (ℕ → X) → ℕ → X → ℕ → X
set_at f a x = λ b. if b == a then x else f b

-- an inaccessible byte has no undefined bits
abbrev pub IsClean : Cell → Type 0
IsClean cell = IsTrue (not cell.accessible) → cell.undef ≡ 0
