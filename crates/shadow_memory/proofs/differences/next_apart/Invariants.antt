use Rattle.std.proofs.Common.{◌≡◌, ◌≤◌, ◌-◌, ◌%◌}
use Rattle.shadow_memory.specs.Comparisons.{AreBytesOf}
use Rattle.shadow_memory.specs.Views.{cells_seen}
use Rattle.shadow_memory.proofs.differences.next_apart.Given as goal

abbrev pub invariant-loop-at : goal.invariant-loop-at
invariant-loop-at l = record {
  start : l.from ≤ l.at;
  within : l.at ≤ 4096;
  aligned : l.at % 4 ≡ 0;
  same : AreBytesOf (cells_seen l.here) (cells_seen l.there) l.from l.at;
}

abbrev pub decreases-loop-at : goal.decreases-loop-at
decreases-loop-at l = 4096 - l.at
