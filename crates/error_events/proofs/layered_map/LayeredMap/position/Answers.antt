use Rattle.std.proofs.Common.{ap, sym, ◌∙◌, ◌+◌, Some}
use Rattle.error_events.specs.contracts.event.KeyPartialEq.TheImpl.{ghosts}
use Rattle.error_events.proofs.LayerSteps.{found-first, found-second, found-not}
use Rattle.error_events.proofs.layered_map.LayeredMap.position.Goals as goal

pub returns-in-Some : goal.returns-in-Some
returns-in-Some c =
    found-first (ghosts.eq c.args.key.now) c.self.inside.settled c.self.inside.recent c.args.self.now
    c.self.view_is c.in-Some.index (sym c.position.ensures ∙ c.in-Some.is)

pub returns-in-Some-position : goal.returns-in-Some-position
returns-in-Some-position c =
    ap (λ n. Some (n + c.in-Some-position.index)) c.len.ensures
    ∙ found-second (ghosts.eq c.args.key.now) c.self.inside.settled c.self.inside.recent c.args.self.now
    c.self.view_is c.in-Some-position.index
    (sym c.position.ensures ∙ c.in-None.is) (sym c.position-in-None.ensures ∙ c.in-Some-position.is)

pub returns-in-None-position : goal.returns-in-None-position
returns-in-None-position c =
    found-not (ghosts.eq c.args.key.now) c.self.inside.settled c.self.inside.recent c.args.self.now
    c.self.view_is
    (sym c.position.ensures ∙ c.in-None.is) (sym c.position-in-None.ensures ∙ c.in-None-position.is)
