-- The regions where nothing is said of them.
use Rattle.std.specs.Prelude.{refl}
use Rattle.memory_map.specs.Regions.{heap_begin, is_heap_begin, is_stack_region, overlap, stack_begin, stack_end}
use Rattle.memory_map.specs.declared.regions.Regions.{Regions}

abbrev pub usual : Regions
unfolding is_heap_begin is_stack_region overlap
usual = record { heap = heap_begin; stack = record { begin = stack_begin; end = stack_end }; sound = refl }
