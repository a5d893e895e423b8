use Rattle.std.proofs.Common.{◌≤◌, ◌*◌, ◌-◌}
use Rattle.shadow_memory.specs.Comparisons.{DifferBelow}
use Rattle.shadow_memory.specs.Memories.{cells_of}
use Rattle.shadow_memory.proofs.memory.Memory.words_apart.Given as goal

abbrev pub invariant-loop-page : goal.invariant-loop-page
invariant-loop-page l = record {
  within : l.page ≤ 1048576;
  few : l.compared ≤ 512;
  known : DifferBelow l.words.items (cells_of l.self) (cells_of l.other) (l.page * 4096);
}

abbrev pub decreases-loop-page : goal.decreases-loop-page
decreases-loop-page l = 1048576 - l.page
