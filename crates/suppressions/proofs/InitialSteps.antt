-- A trace whose innermost name begins with another byte matches no frame lines.
use Rattle.std.proofs.Common.{◌≡◌, ◌==◌, ◌||◌, ℕ, length, List, [], ◌∷◌, ◌++◌, Bool, true, false, MatchBool, cond, Some}
use Rattle.std.proofs.Common.{None, refl, sym, ap, eq-eqb, ◌∙◌}
use Rattle.std.proofs.lemmas.Bool.{false≢true}
use Rattle.std.specs.Bool.{one_answer}
use Rattle.suppressions.specs.declared.frames.FrameLine.{FrameLine}
use Rattle.suppressions.specs.declared.frames.FrameLine.TheVariants.{Function, Object, AnyFrames, Source}
use Rattle.suppressions.specs.Glob.{StandsFor, FitsGlob}
use Rattle.suppressions.specs.Frames.{MatchesTrace, matches_trace}
use Rattle.suppressions.specs.Initials.{initial_of, innermost_initial, may_match}
use Rattle.suppressions.proofs.FittingLaws.{matches_trace_law}

-- a byte that stands for itself
stands-for-itself : (c : ℕ) (part : List ℕ) → StandsFor c part → (c == 42) ≡ false → (c == 63) ≡ false → part ≡ c ∷ []
stands-for-itself c part h a b = go (c == 42) (c == 63) a b h
  where
    go : (x y : Bool) → x ≡ false → y ≡ false → MatchBool x (Unit {0}) (MatchBool y (length part ≡ 1) (part ≡ c ∷ []))
        → part ≡ c ∷ []
    go true y e f k = absurd (false≢true (sym e))
    go false true e f k = absurd (false≢true (sym f))
    go false false e f k = k

glob-begins : (pattern name : List ℕ) (names : List (List ℕ)) → FitsGlob pattern name
    → may_match (initial_of pattern) (name ∷ names) ≡ true
unfolding FitsGlob
glob-begins [] name names h = refl
glob-begins (c ∷ pattern) name names h = go (c == 42) (c == 63) refl refl
  where
    go : (x y : Bool) → (c == 42) ≡ x → (c == 63) ≡ y → may_match (cond (x || y) None (Some c)) (name ∷ names) ≡ true
    go true y e f = refl
    go false true e f = refl
    go false false e f =
        let is : name ≡ c ∷ h.1 = h.2 ∙ ap (λ part. part ++ h.1) (stands-for-itself c h.0 h.3 e f) in
        ap (λ n. may_match (Some c) (n ∷ names)) is ∙ eq-eqb c c refl

trace-begins : (lines : List FrameLine) (names : List (List ℕ)) → MatchesTrace lines names
    → may_match (innermost_initial lines) names ≡ true
unfolding MatchesTrace
trace-begins [] names h = refl
trace-begins (Object pattern ∷ lines) names h = refl
trace-begins (AnyFrames ∷ lines) names h = refl
trace-begins (Source ∷ lines) names h = refl
trace-begins (Function pattern ∷ lines) names h =
    let pieces = h.3 in
    let frame = pieces.3 in
    let front : h.0 ≡ frame.0 ∷ pieces.1 = pieces.2 ∙ ap (λ part. part ++ pieces.1) frame.1 in
    let is : names ≡ frame.0 ∷ (pieces.1 ++ h.1) = h.2 ∙ ap (λ f. f ++ h.1) front in
    ap (may_match (initial_of pattern)) is ∙ glob-begins pattern frame.0 (pieces.1 ++ h.1) frame.2

pub unmatched : (lines : List FrameLine) (names : List (List ℕ)) → may_match (innermost_initial lines) names ≡ false
    → false ≡ matches_trace lines names
unmatched lines names none =
    one_answer false (matches_trace lines names) (
      λ h. absurd (false≢true h),
      λ m. absurd (false≢true (sym none ∙ trace-begins lines names m)),
    ) (matches_trace_law lines names)
