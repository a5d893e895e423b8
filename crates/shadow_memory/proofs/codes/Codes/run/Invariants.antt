use Rattle.std.proofs.Common.{ℕ, ◌≡◌, ◌<◌, ◌≤◌, ◌-◌}
use Rattle.shadow_memory.specs.Codes.{code_at}
use Rattle.shadow_memory.proofs.codes.Codes.run.Given as goal

abbrev pub invariant-loop-at : goal.invariant-loop-at
invariant-loop-at l = record {
  start : l.from ≤ l.at;
  within : l.at ≤ l.to;
  same : (k : ℕ) → l.from ≤ k → k < l.at → code_at l.self k ≡ code_at l.self l.from;
}

abbrev pub decreases-loop-at : goal.decreases-loop-at
decreases-loop-at l = l.to - l.at
