use Rattle.std.proofs.Common.{◌+◌, ◌<◌, ◌≤◌}
use Rattle.guest_heap.proofs.bounds.class_of.Given as goal

abbrev pub invariant-loop-doubling : goal.invariant-loop-doubling
invariant-loop-doubling l = record {
  under : l.half ≤ l.below;
  small : l.below < 16777216;
  index : l.index ≤ 256 + l._doubling;
}
