-- What a load takes of cells, which are given by their offsets.
use Rattle.std.specs.Prelude.{ℕ, ◌==◌, not, nat_lt, if◌then◌else◌}
use Rattle.shadow_memory.specs.Cells.{shadow_in}
use Rattle.shadow_memory.specs.Ranges.{first_from, little_word}
use Rattle.shadow_memory.specs.Shadows.{address_at, loaded_undef}
use Rattle.shadow_memory.specs.declared.cells.Cell.{Cell}
use Rattle.shadow_memory.specs.declared.cells.Loaded.{Loaded}

-- four values by their numbers; the last one for each greater number, too
abbrev pub four : {X : Type 0} → X → X → X → X → ℕ → X
four first second third fourth i = if i == 0 then first else if i == 1 then second else if i == 2 then third else fourth

-- what a load of n bytes takes
unfoldable pub loaded_at : (ℕ → Cell) → ℕ → ℕ → Loaded
loaded_at cells addr n = record {
  value = little_word (λ i. if nat_lt i n then (cells i).byte else 0);
  undef = little_word (λ i. if nat_lt i n then loaded_undef (shadow_in (cells i)) else 0);
  bad = address_at addr (first_from (λ i. not (cells i).accessible) 0 n);
}
