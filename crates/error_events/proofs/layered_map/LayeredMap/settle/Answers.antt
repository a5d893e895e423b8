use Rattle.error_events.specs.contracts.event.KeyPartialEq.TheImpl.{ghosts}
use Rattle.error_events.proofs.LayerSteps.{new-none}
use Rattle.error_events.proofs.layered_map.LayeredMap.settle.Goals as goal

pub invariant_of-self-2 : goal.invariant_of-self-2
invariant_of-self-2 c = new-none ghosts.eq c.push.new.self c.new.result c.new.ensures
