use Rattle.std.proofs.Common.{ℕ, ◌<◌}
use Rattle.leak_graph.specs.Marks.{IsMarked}
use Rattle.leak_graph.proofs.kinds.are_all.Given as goal

abbrev pub invariant-loop-block : goal.invariant-loop-block
invariant-loop-block l = (b : ℕ) → b < l.block → IsMarked l.marks b
