use Rattle.std.proofs.Common.{◌≡◌, ◌++◌, map, take, drop}
use Rattle.guest_heap.specs.Gaps.{raised}
use Rattle.guest_heap.proofs.gaps.ranges.raise_all.Given as goal

abbrev pub invariant-loop-range : goal.invariant-loop-range
invariant-loop-range l =
    l.range-items ≡ map (raised l.opened) (take l.range-index l.initial.range-items)
    ++ drop l.range-index l.initial.range-items
