use Rattle.std.proofs.Common.{◌≡◌, map, take}
use Rattle.error_events.specs.Shown.{groups_of}
use Rattle.replay_report.specs.Filtering.{hides}
use Rattle.replay_report.proofs.filtering.hidden_of.Given as goal

abbrev pub invariant-loop-i : goal.invariant-loop-i
invariant-loop-i l =
    l.hidden.items ≡ map (λ g. hides l.fn.suppressions l.fn.image g.kind g.trace) (take l.i (groups_of l.groups))
