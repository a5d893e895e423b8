-- The lines of a suppression text that count, with their numbers (Valgrind user manual, section 2.5: empty lines and
-- comments, which begin with `#`, are skipped).
use Rattle.std.specs.Prelude.{ℕ, ◌+◌, ◌==◌, Bool, true, ◌||◌, List, [], ◌∷◌, if◌then◌else◌, codes}
use Rattle.std.specs.Str.{bytes_eq}
use Rattle.texts.specs.Parts.{parts}

-- a line, trimmed, and its number in the text; the first line is 1
pub record Line : Type 0 where
  pub number : ℕ
  pub text : List ℕ

-- spaces, tabs and carriage returns are dropped at both ends of a line
abbrev pub is_blank : ℕ → Bool
is_blank b = b == 32 || b == 9 || b == 13

abbrev pub trim_start : List ℕ → List ℕ
trim_start [] = []
trim_start (b ∷ bs) = if is_blank b then trim_start bs else b ∷ bs

abbrev pub onto_trimmed : ℕ → List ℕ → List ℕ
onto_trimmed b [] = if is_blank b then [] else b ∷ []
onto_trimmed b (c ∷ cs) = b ∷ c ∷ cs

abbrev pub trim_end : List ℕ → List ℕ
trim_end [] = []
trim_end (b ∷ bs) = onto_trimmed b (trim_end bs)

unfoldable pub trimmed : List ℕ → List ℕ
trimmed line = trim_end (trim_start line)

-- an empty line and one that begins with `#` (35) don't count
abbrev pub is_skipped : List ℕ → Bool
is_skipped [] = true
is_skipped (b ∷ bs) = b == 35

abbrev pub onto_lines : ℕ → List ℕ → List Line → List Line
onto_lines number text lines = if is_skipped text then lines else record { number = number; text = text } ∷ lines

-- the lines that count, from a number on
unfoldable pub numbered : ℕ → List (List ℕ) → List Line
numbered number [] = []
numbered number (line ∷ lines) = onto_lines number (trimmed line) (numbered (number + 1) lines)

-- a text's lines are between newlines (10); an empty rest after the last one doesn't count, like any empty line
abbrev pub lines_of : List ℕ → List Line
lines_of text = numbered 1 (parts 10 text)

abbrev pub opens : Line → Bool
opens line = bytes_eq line.text (codes "{")

abbrev pub closes : Line → Bool
closes line = bytes_eq line.text (codes "}")
