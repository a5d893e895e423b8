use Rattle.std.proofs.Common.{refl}
use Rattle.memory_map.specs.Regions.{is_heap_begin, is_stack_region, overlap}
use Rattle.guest_heap.proofs.heap.Heap.new.Goals as goal

pub invariant_of-new_in : goal.invariant_of-new_in
unfolding is_heap_begin is_stack_region overlap
invariant_of-new_in c = record { sound = refl }
