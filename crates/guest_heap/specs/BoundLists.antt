-- The bounds of a heap.
use Rattle.std.specs.Prelude.{List}
use Rattle.guest_heap.specs.SharedLists.{items_in}
use Rattle.guest_heap.specs.declared.bounds.Bound.{Bound}
use Rattle.guest_heap.specs.declared.bounds.Bounds.{Bounds}

abbrev pub bounds_in : Bounds → List Bound
bounds_in bounds = items_in bounds.list
