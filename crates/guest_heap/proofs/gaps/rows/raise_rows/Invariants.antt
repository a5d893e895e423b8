use Rattle.std.proofs.Common.{◌≡◌, ◌++◌, map, take, drop}
use Rattle.guest_heap.specs.Gaps.{raised_row}
use Rattle.guest_heap.proofs.gaps.rows.raise_rows.Given as goal

abbrev pub invariant-loop-row : goal.invariant-loop-row
invariant-loop-row l =
    l.row-items ≡ map (raised_row l.opened) (take l.row-index l.initial.row-items)
    ++ drop l.row-index l.initial.row-items
