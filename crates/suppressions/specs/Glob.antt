-- Patterns of names: `*` stands for any bytes, `?` for any one byte, another byte for itself (Valgrind user manual,
-- section 2.5).
use Rattle.std.specs.Prelude.{◌≡◌, ℕ, ◌==◌, Bool, true, List, [], ◌∷◌, length, MatchBool, if◌then◌else◌}
use Rattle.std.specs.Str.{bytes_eq}
use Rattle.suppressions.specs.Fitting.{FitsPieces, fits_pieces}

-- what a byte of a pattern stands for; 42 is `*` and 63 is `?`
abbrev pub StandsFor : ℕ → List ℕ → Type 0
StandsFor c part = MatchBool (c == 42) (Unit {0}) (MatchBool (c == 63) (length part ≡ 1) (part ≡ c ∷ []))

-- a text fits a pattern if it splits into parts that the pattern's bytes stand for, in order
unfoldable pub FitsGlob : List ℕ → List ℕ → Type 0
FitsGlob pattern text = FitsPieces StandsFor pattern text

-- the same as functions
abbrev pub stands_for : ℕ → List ℕ → Bool
stands_for c part = if c == 42 then true else if c == 63 then length part == 1 else bytes_eq part (c ∷ [])

unfoldable pub fits_glob : List ℕ → List ℕ → Bool
fits_glob pattern text = fits_pieces stands_for pattern text
