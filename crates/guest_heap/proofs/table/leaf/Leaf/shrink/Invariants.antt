use Rattle.std.proofs.Common.{◌≡◌}
use Rattle.guest_heap.proofs.table.leaf.Leaf.shrink.Given as goal

abbrev pub invariant-loop-self : goal.invariant-loop-self
invariant-loop-self l = l.self.slots ≡ l.initial.self.slots

abbrev pub decreases-loop-self : goal.decreases-loop-self
decreases-loop-self l = l.self.used
