-- Words by their values: the words of a memory whose value lies in a range.
use Rattle.std.specs.Prelude.{ℕ, Bool, true, false, ◌&&◌, ◌+◌, ◌%◌, ◌<◌, ◌≤◌, ◌≡◌, nat_le, nat_lt}
use Rattle.shadow_memory.specs.Ranges.{little_word}
use Rattle.shadow_memory.specs.Shadows.{Shadow, holds_word}

-- the value of the four bytes at an address, the lowest first (RISC-V Unprivileged ISA 20191213, section 1.5)
abbrev pub value_at : (ℕ → ℕ) → ℕ → ℕ
value_at bytes a = little_word (λ i. bytes (a + i))

-- are the four bytes at an address accessible and defined, with a value from low up to, but not including, high?
abbrev pub holds_in_range : (ℕ → ℕ) → (ℕ → Shadow) → ℕ → ℕ → ℕ → Bool
holds_in_range bytes shadows low high a =
    nat_le low (value_at bytes a) && nat_lt (value_at bytes a) high && holds_word shadows a

-- no multiple of 4 from one address up to, but not including, another holds such a word
abbrev pub HoldNoneInRange : (ℕ → ℕ) → (ℕ → Shadow) → ℕ → ℕ → ℕ → ℕ → Type 0
HoldNoneInRange bytes shadows low high from to =
    (a : ℕ) → from ≤ a → a < to → a % 4 ≡ 0 → holds_in_range bytes shadows low high a ≡ false

-- the least multiple of 4, at or above an address, that holds such a word
pub record IsNextInRange (bytes : ℕ → ℕ) (shadows : ℕ → Shadow) (low high from word : ℕ) : Type 0 where
  pub above : from ≤ word
  pub aligned : word % 4 ≡ 0
  pub holds : holds_in_range bytes shadows low high word ≡ true
  pub least : HoldNoneInRange bytes shadows low high from word
