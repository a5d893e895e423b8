-- Frame lines, and the traces that they match (Valgrind user manual, section 2.5: each line fits one frame, `...` any
-- number; the trace may continue after them). A trace is given by the names of its frames, the innermost first.
use Rattle.std.specs.Prelude.{◌≡◌, ℕ, Bool, true, false, List, [], ◌∷◌, ◌++◌, length, codes}
use Rattle.suppressions.specs.declared.frames.FrameLine.{FrameLine}
use Rattle.suppressions.specs.declared.frames.FrameLine.TheVariants.{Function, Object, AnyFrames, Source}
use Rattle.suppressions.specs.Fitting.{FitsPieces, some_split, fits_pieces}
use Rattle.suppressions.specs.Glob.{FitsGlob, fits_glob}

-- the frames that one frame line matches; all code lies in the one object `guest`, and no source file is known
abbrev pub FitsFrame : FrameLine → List (List ℕ) → Type 0
FitsFrame (Function pattern) names = (name : List ℕ) × (names ≡ name ∷ []) × FitsGlob pattern name
FitsFrame (Object pattern) names = (length names ≡ 1) × FitsGlob pattern (codes "guest")
FitsFrame AnyFrames names = Unit {0}
FitsFrame Source names = ⊥

-- some frames at the front of the trace fit the frame lines, in order
unfoldable pub MatchesTrace : List FrameLine → List (List ℕ) → Type 0
MatchesTrace frames names =
    (front : List (List ℕ)) × (rest : List (List ℕ)) × (names ≡ front ++ rest) × FitsPieces FitsFrame frames front

-- the same as functions
abbrev pub fits_frame : FrameLine → List (List ℕ) → Bool
fits_frame (Function pattern) (name ∷ []) = fits_glob pattern name
fits_frame (Object pattern) (name ∷ []) = fits_glob pattern (codes "guest")
fits_frame AnyFrames names = true
fits_frame frame names = false

unfoldable pub matches_trace : List FrameLine → List (List ℕ) → Bool
matches_trace frames names = some_split (λ front rest. fits_pieces fits_frame frames front) names
