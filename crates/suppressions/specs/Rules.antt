-- A suppression as a value: what it is for, its frame lines, and whether it is switched on. What it matches, and what
-- the suppressions that are on leave out of a report (Valgrind user manual, section 2.5).
use Rattle.std.specs.Prelude.{ℕ, Bool, IsTrue, ◌&&◌, List}
use Rattle.std.specs.List.{Any, list_any}
use Rattle.suppressions.specs.declared.frames.FrameLine.{FrameLine}
use Rattle.suppressions.specs.declared.subject.Subject.{Subject}
use Rattle.suppressions.specs.declared.target.Target.{Target}
use Rattle.suppressions.specs.Frames.{MatchesTrace, matches_trace}
use Rattle.suppressions.specs.Subjects.{IsFor, is_for}

pub record Rule : Type 0 where
  pub subject : Subject
  pub frames : List FrameLine
  pub on : Bool

-- a suppression matches an error or a leak that it is for, if its frame lines match the trace, whatever its switch
abbrev pub Matches : Rule → Target → List (List ℕ) → Type 0
Matches rule target names = IsFor rule.subject target × MatchesTrace rule.frames names

-- the same as a function
abbrev pub matches : Rule → Target → List (List ℕ) → Bool
matches rule target names = is_for rule.subject target && matches_trace rule.frames names

-- what a report leaves out: some suppression that is switched on matches
abbrev pub IsSuppressed : List Rule → Target → List (List ℕ) → Type 0
IsSuppressed rules target names = Any (λ rule. IsTrue rule.on × Matches rule target names) rules

-- the same as a function
abbrev pub is_suppressed : List Rule → Target → List (List ℕ) → Bool
is_suppressed rules target names = list_any (λ rule. rule.on && matches rule target names) rules
