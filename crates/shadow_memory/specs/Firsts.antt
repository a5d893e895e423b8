-- The first place that passes a test.
use Rattle.std.specs.Prelude.{ℕ, Bool, true, false, ◌<◌, ◌≤◌, ◌≡◌}

-- no place from one up to, but not including, another passes
abbrev pub NonePass : (ℕ → Bool) → ℕ → ℕ → Type 0
NonePass p from to = (k : ℕ) → from ≤ k → k < to → p k ≡ false

-- the first one that passes
pub record IsFirst (p : ℕ → Bool) (from to i : ℕ) : Type 0 where
  pub start : from ≤ i
  pub within : i < to
  pub passes : p i ≡ true
  pub least : NonePass p from i
