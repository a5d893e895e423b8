use Rattle.std.proofs.Common.{arith}
use Rattle.guest_heap.proofs.Clones.{none_in, none_used, cloned_none}
use Rattle.guest_heap.proofs.table.leaf.LeafPart.empty.Goals as goal

pub invariant_of-result : goal.invariant_of-result
invariant_of-result c = record {
  full = c.in_ok-slots.ensures.len;
  within = omega arith;
  unused = none_used _ 64 (c.in_ok-slots.ensures.items_if_clones_equal cloned_none);
}

pub returns : goal.returns
returns c = none_in _ 64 (c.in_ok-slots.ensures.items_if_clones_equal cloned_none)
