-- Words in which the bytes of two memories differ.
use Rattle.std.specs.Prelude.{ℕ, Bool, List, false, ◌+◌, ◌%◌, ◌/◌, ◌<◌, ◌≡◌, ◌==◌}
use Rattle.std.specs.List.{All, list_any}
use Rattle.shadow_memory.specs.Ranges.{byte_of}
use Rattle.shadow_memory.specs.declared.differences.WordApart.{WordApart}

-- is an address in one of these words?
abbrev pub in_words : List WordApart → ℕ → Bool
in_words words a = list_any (λ (w : WordApart). w.addr / 4 == a / 4) words

-- a word holds these bytes in one function of the address, and those in another
pub record IsWordApart (one other : ℕ → ℕ) (w : WordApart) : Type 0 where
  pub aligned : w.addr % 4 ≡ 0
  pub here : (i : ℕ) → i < 4 → one (w.addr + i) ≡ byte_of w.here i
  pub there : (i : ℕ) → i < 4 → other (w.addr + i) ≡ byte_of w.there i

-- bytes that have these values in these words, and are the same outside of them
pub record DifferInWords (words : List WordApart) (one other : ℕ → ℕ) : Type 0 where
  pub inside : All (IsWordApart one other) words
  pub outside : (a : ℕ) → in_words words a ≡ false → one a ≡ other a
