use Rattle.std.proofs.Common.{◌≡◌, ◌++◌, map, take, drop}
use Rattle.guest_heap.specs.Bounds.{lowered}
use Rattle.guest_heap.proofs.bounds.lower_all.Given as goal

abbrev pub invariant-loop-bound : goal.invariant-loop-bound
invariant-loop-bound l =
    l.bound-items ≡ map (lowered l.opened) (take l.bound-index l.initial.bound-items)
    ++ drop l.bound-index l.initial.bound-items
