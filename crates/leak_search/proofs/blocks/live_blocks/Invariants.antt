use Rattle.std.proofs.Common.{◌-◌, ◌^◌}
use Rattle.guest_heap.specs.Heaps.{blocks_of}
use Rattle.leak_search.proofs.LiveSteps.{FoundBelow}
use Rattle.leak_search.proofs.blocks.live_blocks.Given as goal

abbrev pub invariant-loop-blocks : goal.invariant-loop-blocks
invariant-loop-blocks l = FoundBelow (blocks_of l.heap) l.blocks.items l.from

abbrev pub decreases-loop-blocks : goal.decreases-loop-blocks
decreases-loop-blocks l = 2 ^ 32 - l.from
