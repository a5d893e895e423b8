-- Ranges of addresses, as a step names them.
use Rattle.std.specs.Prelude.{◌≡◌, ◌%◌, ◌≤◌, ℕ, Bool, Option, Some, None, false}
use Rattle.shadow_memory.specs.Ranges.{is_in}
use Rattle.run_values.specs.declared.span.Span.{Span}

abbrev pub span_at : ℕ → ℕ → Span
span_at start len = record { start = start; len = len }

-- is an address in a range, if there is one?
abbrev pub covers : Option Span → ℕ → Bool
covers None a = false
covers (Some span) a = is_in span.start span.len a

-- a range is that of a code: at most four bytes, from a multiple of 2 on
pub record IsCodeSpan (span : Span) : Type 0 where
  pub even : span.start % 2 ≡ 0
  pub few : span.len ≤ 4
