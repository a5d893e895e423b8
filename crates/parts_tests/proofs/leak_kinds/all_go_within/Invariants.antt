use Rattle.std.proofs.Common.{◌≡◌, ℕ, ◌<◌, slice_get, Some, Vec, Global}
use Rattle.leak_graph.specs.declared.graph.Pointer.{Pointer}
use Rattle.leak_graph.specs.Graphs.{GoWithin}
use Rattle.parts_tests.proofs.leak_kinds.all_go_within.Given as goal

abbrev pub invariant-loop-row : goal.invariant-loop-row
invariant-loop-row l =
    (k : ℕ) (row : Vec Pointer Global) → k < l.row-index → slice_get l.edges k ≡ Some row → GoWithin row.items l.count
