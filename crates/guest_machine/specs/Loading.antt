-- How segments are loaded over what is there.
use Rattle.std.specs.Prelude.{ℕ, List, unwrap_or, is_some, if◌then◌else◌}
use Rattle.guest_elf.specs.Segments.{loaded}
use Rattle.guest_elf.specs.declared.segment.Segment.{Segment}
use Rattle.shadow_memory.specs.Shadows.{Shadow, shadow_of}
use Rattle.shadow_memory.specs.declared.cells.RangeKind.TheVariants.{Defined}

unfoldable pub loaded_bytes : List Segment → (ℕ → ℕ) → ℕ → ℕ
loaded_bytes segments f = λ a. unwrap_or (loaded segments a) (f a)

unfoldable pub loaded_shadows : List Segment → (ℕ → Shadow) → ℕ → Shadow
loaded_shadows segments f = λ a. if is_some (loaded segments a) then shadow_of Defined else f a
