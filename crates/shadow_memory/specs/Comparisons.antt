-- Bytes of one memory that are those of another.
use Rattle.std.specs.Prelude.{ℕ, List, true, false, ◌≡◌, ◌<◌, ◌≤◌}
use Rattle.std.specs.List.{All}
use Rattle.shadow_memory.specs.Cells.{shadow_in}
use Rattle.shadow_memory.specs.Differences.{IsWordApart, in_words}
use Rattle.shadow_memory.specs.Firsts.{NonePass}
use Rattle.shadow_memory.specs.Shadows.{is_bad}
use Rattle.shadow_memory.specs.declared.cells.Cell.{Cell}
use Rattle.shadow_memory.specs.declared.differences.WordApart.{WordApart}

-- the bytes from one place up to, but not including, another are those of other cells there
abbrev pub AreBytesOf : (ℕ → Cell) → (ℕ → Cell) → ℕ → ℕ → Type 0
AreBytesOf cells others from to = (a : ℕ) → from ≤ a → a < to → (cells a).byte ≡ (others a).byte

-- and all of them are accessible and defined
pub record HaveBytesOf (cells others : ℕ → Cell) (from to : ℕ) : Type 0 where
  pub fine : NonePass (λ k. is_bad true (shadow_in (cells k))) from to
  pub bytes : AreBytesOf cells others from to

-- cells differ in no more than the bytes of these words, below an address
pub record DifferBelow (words : List WordApart) (cells others : ℕ → Cell) (to : ℕ) : Type 0 where
  pub inside : All (IsWordApart (λ a. (cells a).byte) (λ a. (others a).byte)) words
  pub outside : (a : ℕ) → a < to → in_words words a ≡ false → (cells a).byte ≡ (others a).byte
  pub shadows : (a : ℕ) → a < to → shadow_in (cells a) ≡ shadow_in (others a)
