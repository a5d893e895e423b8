use Rattle.std.proofs.Common.{sym, subst}
use Rattle.error_events.specs.contracts.event.KeyPartialEq.TheImpl.{ghosts}
use Rattle.error_events.specs.Entries.{AreNew}
use Rattle.error_events.proofs.shared_map.join.Goals as goal

pub append-requires : goal.append-requires
append-requires c =
    subst (λ es. AreNew ghosts.eq es c.args.second.now.entries) (sym c.in_ok-whole.ensures) c.requires
