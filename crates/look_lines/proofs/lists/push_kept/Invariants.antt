use Rattle.guest_heap.specs.Heaps.{blocks_of}
use Rattle.look_lines.proofs.Blocks.{Fronts}
use Rattle.look_lines.proofs.lists.push_kept.Given as goal

abbrev pub invariant-loop-i : goal.invariant-loop-i
invariant-loop-i l = Fronts (blocks_of l.heap) l.from l.at l.i l.fn.out.items l.out.items
