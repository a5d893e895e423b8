use Rattle.error_events.specs.contracts.event.KeyPartialEq.TheImpl.{ghosts}
use Rattle.error_events.proofs.ApartSteps.{apart-copied, length-pushed}
use Rattle.error_events.proofs.layers.Layers.push.Goals as goal

pub put_behind-requires : goal.put_behind-requires
put_behind-requires c =
    apart-copied ghosts.eq c.self.inside.maps.items c.args.self.now c.args.young.now c.in_ok-share.field-0
    c.in_ok-share.ensures c.self.view_is c.self.invariant.0 c.requires

pub invariant_of-self-2 : goal.invariant_of-self-2
invariant_of-self-2 c = (
  c.in_ok-put_behind.ensures.apart,
  length-pushed c.self.inside.maps.items c.put_behind.new.maps.items c.args.young.now c.in_ok-share.field-0
      c.self.inside.len c.len.result c.in-Some.len
      c.in_ok-put_behind.ensures.entries c.in_ok-share.ensures c.self.invariant.1 c.len.ensures c.in-Some.ensures.1,
)
