use Rattle.std.proofs.Common.{ap, sym, ◌∙◌}
use Rattle.std.specs.Map.Iter.{deref_pair}
use Rattle.std.proofs.lemmas.Map.Iter.{rest_all}
use Rattle.indexmap.specs.IndexMap.{insert_all}
use Rattle.error_events.specs.contracts.event.KeyPartialEq.TheImpl.{ghosts}
use Rattle.error_events.proofs.KeySteps.{key-flips}
use Rattle.error_events.proofs.LayerSteps.{insert_all-new}
use Rattle.error_events.proofs.shared_map.append.Goals as goal

pub returns : goal.returns
returns c =
    let none_left = rest_all deref_pair c.loop-key.key-iterator _ _ c.in-None.is c.next.ensures.steps in
    let same = insert_all-new ghosts.eq key-flips c.args.whole.now.entries c.args.second.now.entries
    c.requires c.len.ensures.unique in
    ap (insert_all ghosts.eq c.loop-key.whole.entries) (sym none_left) ∙ c.loop-key.invariant
    ∙ ap (λ es. insert_all ghosts.eq es c.args.second.now.entries) c.in_ok-reserve.ensures.entries ∙ same
