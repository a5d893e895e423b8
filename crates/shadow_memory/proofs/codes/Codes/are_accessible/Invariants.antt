use Rattle.std.proofs.Common.{ℕ, ◌<◌, ◌≤◌}
use Rattle.shadow_memory.specs.Codes.{code_at}
use Rattle.shadow_memory.proofs.codes.Codes.are_accessible.Given as goal

abbrev pub invariant-loop-at : goal.invariant-loop-at
invariant-loop-at l = (k : ℕ) → l.from ≤ k → k < l.at → 0 < code_at l.self k
