-- The entries that are left, inserted in those so far, are all of them inserted.
use Rattle.std.proofs.Common.{◌≡◌}
use Rattle.indexmap.specs.IndexMap.{insert_all}
use Rattle.error_events.specs.contracts.event.KeyPartialEq.TheImpl.{ghosts}
use Rattle.error_events.proofs.shared_map.append.Given as goal

abbrev pub invariant-loop-key : goal.invariant-loop-key
invariant-loop-key l =
    insert_all ghosts.eq l.whole.entries l.key-iterator
    ≡ insert_all ghosts.eq l.initial.whole.entries l.second.entries
