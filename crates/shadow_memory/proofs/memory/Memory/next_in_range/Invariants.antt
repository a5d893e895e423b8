use Rattle.std.proofs.Common.{◌*◌, ◌+◌, ◌-◌, ◌%◌, ◌≡◌, ◌≤◌}
use Rattle.shadow_memory.specs.Memories.{bytes_in, shadows_in}
use Rattle.shadow_memory.specs.Values.{HoldNoneInRange}
use Rattle.shadow_memory.proofs.memory.Memory.next_in_range.Given as goal

abbrev pub invariant-loop-page : goal.invariant-loop-page
invariant-loop-page l = record {
  within : l.page ≤ 1048576;
  place : l.from ≤ 4096;
  aligned : l.from % 4 ≡ 0;
  above : l.addr ≤ 4096 * l.page + l.from;
  none : HoldNoneInRange (bytes_in l.self) (shadows_in l.self) l.low l.high l.addr (4096 * l.page + l.from);
}

abbrev pub decreases-loop-page : goal.decreases-loop-page
decreases-loop-page l = 1048576 - l.page
