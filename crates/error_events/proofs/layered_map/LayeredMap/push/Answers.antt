use Rattle.std.proofs.Common.{◌∙◌}
use Rattle.error_events.specs.contracts.event.KeyPartialEq.TheImpl.{ghosts}
use Rattle.error_events.proofs.LayerSteps.{absent-both, new-pushed}
use Rattle.error_events.proofs.layered_map.LayeredMap.push.Goals as goal

pub push-requires : goal.push-requires
push-requires c =
    (absent-both (ghosts.eq c.args.key.now) c.self.inside.settled c.self.inside.recent c.args.self.now
    (c.self.view_is ∙ c.prepare.ensures) c.requires).1

pub invariant_of-self : goal.invariant_of-self
invariant_of-self c =
    new-pushed ghosts.eq c.args.key.now c.args.note c.self.inside.settled c.self.inside.recent c.push.new.self
    c.push.result c.self.invariant
    (absent-both (ghosts.eq c.args.key.now) c.self.inside.settled c.self.inside.recent c.args.self.now
    (c.self.view_is ∙ c.prepare.ensures) c.requires).0
    c.push.ensures.ok c.push.ensures.err
