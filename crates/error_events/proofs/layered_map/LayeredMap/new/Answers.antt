use Rattle.error_events.specs.contracts.event.KeyPartialEq.TheImpl.{ghosts}
use Rattle.error_events.proofs.LayerSteps.{new-none}
use Rattle.error_events.proofs.layered_map.LayeredMap.new.Goals as goal

pub invariant_of-result : goal.invariant_of-result
invariant_of-result c = new-none ghosts.eq c.new.result c.new-2.result c.new-2.ensures
