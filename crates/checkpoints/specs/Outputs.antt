-- A part of the output of a run.
use Rattle.std.specs.Prelude.{ℕ, List, drop, take}
use Rattle.run_values.specs.declared.span.Span.{Span}

-- the elements of a list at a number of positions, from one on: those that there are
unfoldable pub part : Span → List ℕ → List ℕ
part range xs = take range.len (drop range.start xs)
