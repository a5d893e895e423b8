-- What a reader sees in a text without errors: the last line of a report, and the lines of an outline.
use Rattle.std.specs.Prelude.{◌≡◌, ◌⊎◌, ℕ, List, [], ◌++◌, codes}
use Rattle.error_events.specs.declared.kind.Kind.{Kind}
use Rattle.report_lines.specs.Lines.{kind_text}
use Rattle.report_lines.specs.Text.{newline}

-- the last line of a report without errors, not even suppressed ones
abbrev pub no_errors_line : List ℕ
no_errors_line = codes "ERROR SUMMARY: 0 errors from 0 contexts (suppressed: 0 from 0)\n"

-- a text ends with that line, whatever is before it
abbrev pub EndsWithNoErrors : List ℕ → Type 0
EndsWithNoErrors text = (front : List ℕ) × (text ≡ front ++ no_errors_line)

-- a text is empty or ends with a newline
abbrev pub IsOfLines : List ℕ → Type 0
IsOfLines text = (text ≡ []) ⊎ ((front : List ℕ) × (text ≡ front ++ newline))

-- a text has a line, given without its newline
pub record HasLine (text line : List ℕ) : Type 0 where
  pub front : List ℕ
  pub back : List ℕ
  pub before : IsOfLines front
  pub parts : text ≡ front ++ line ++ newline ++ back

-- some line of a text names an error
abbrev pub HasErrorLine : List ℕ → Type 0
HasErrorLine text = (kind : Kind) × HasLine text (kind_text kind)
