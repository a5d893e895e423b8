-- What the first byte of a pattern says about the traces that frame lines match.
use Rattle.std.specs.Prelude.{ℕ, Bool, true, false, ◌==◌, ◌||◌, if◌then◌else◌, List, [], ◌∷◌, Option, Some, None}
use Rattle.suppressions.specs.declared.frames.FrameLine.{FrameLine}
use Rattle.suppressions.specs.declared.frames.FrameLine.TheVariants.{Function}

-- the first byte of each text that fits a pattern, if the pattern's first byte stands for itself; 42 is `*` and 63 is
-- `?`
abbrev pub initial_of : List ℕ → Option ℕ
initial_of [] = None
initial_of (c ∷ pattern) = if c == 42 || c == 63 then None else Some c

-- the first byte of the innermost frame's name in each trace that frame lines match, if the first of them gives it
abbrev pub innermost_initial : List FrameLine → Option ℕ
innermost_initial (Function pattern ∷ lines) = initial_of pattern
innermost_initial lines = None

-- does the innermost frame's name begin with a byte, if one is known?
abbrev pub may_match : Option ℕ → List (List ℕ) → Bool
may_match None names = true
may_match (Some c) ((b ∷ name) ∷ names) = b == c
may_match (Some c) names = false
