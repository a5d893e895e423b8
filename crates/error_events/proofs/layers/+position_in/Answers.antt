use Rattle.std.proofs.Common.{ap, sym, ◌∙◌, ◌+◌, Some}
use Rattle.error_events.specs.contracts.event.KeyPartialEq.TheImpl.{ghosts}
use Rattle.error_events.specs.Layers.{entries_in}
use Rattle.error_events.proofs.LayerSteps.{found-first, found-second, found-not}
use Rattle.error_events.proofs.layers.+position_in.Goals as goal

pub returns-in-Some : goal.returns-in-Some
returns-in-Some t c =
    found-first (ghosts.eq c.args.key.now) c.in_ok-oldest.oldest.now (entries_in c.in_ok-oldest.later.now)
    (entries_in c.args.maps.now)
    (ap (λ maps. entries_in maps) (sym c.in_ok-oldest.ensures.cases.0))
    c.in-Some.index (sym c.position.ensures ∙ c.in-Some.is)

pub returns-in-Some-position_in : goal.returns-in-Some-position_in
returns-in-Some-position_in t c =
    ap (λ n. Some (n + c.in-Some-position_in.index)) c.len.ensures
    ∙ found-second (ghosts.eq c.args.key.now) c.in_ok-oldest.oldest.now (entries_in c.in_ok-oldest.later.now)
    (entries_in c.args.maps.now)
    (ap (λ maps. entries_in maps) (sym c.in_ok-oldest.ensures.cases.0))
    c.in-Some-position_in.index (sym c.position.ensures ∙ c.in-None.is) (sym c.position_in.ensures
    ∙ c.in-Some-position_in.is)

pub returns-in-None-position_in : goal.returns-in-None-position_in
returns-in-None-position_in t c =
    found-not (ghosts.eq c.args.key.now) c.in_ok-oldest.oldest.now (entries_in c.in_ok-oldest.later.now)
    (entries_in c.args.maps.now)
    (ap (λ maps. entries_in maps) (sym c.in_ok-oldest.ensures.cases.0))
    (sym c.position.ensures ∙ c.in-None.is) (sym c.position_in.ensures ∙ c.in-None-position_in.is)
