use Rattle.std.proofs.Common.{◌≡◌, ◌≤◌, ◌+◌, ◌-◌, ◌%◌}
use Rattle.shadow_memory.specs.Comparisons.{DifferBelow}
use Rattle.shadow_memory.specs.Memories.{cells_of}
use Rattle.shadow_memory.proofs.memory.Memory.push_words.Given as goal

abbrev pub invariant-loop-at : goal.invariant-loop-at
invariant-loop-at l = record {
  within : l.at ≤ 4096;
  aligned : l.at % 4 ≡ 0;
  known : DifferBelow l.words.items (cells_of l.self) (cells_of l.other) (l.addr + l.at);
}

abbrev pub decreases-loop-at : goal.decreases-loop-at
decreases-loop-at l = 4096 - l.at
