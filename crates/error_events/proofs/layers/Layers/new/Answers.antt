use Rattle.error_events.specs.contracts.event.KeyPartialEq.TheImpl.{ghosts}
use Rattle.error_events.proofs.ApartSteps.{apart-none}
use Rattle.error_events.proofs.layers.Layers.new.Goals as goal

pub invariant_of-result : goal.invariant_of-result
invariant_of-result c = apart-none ghosts.eq c.new.result.items c.new.ensures.items
