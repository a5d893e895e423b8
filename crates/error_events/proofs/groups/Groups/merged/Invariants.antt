-- What is left to merge leads to the same as the whole.
use Rattle.std.proofs.Common.{◌≡◌, [], drop}
use Rattle.error_events.specs.Merging.{merged}
use Rattle.error_events.specs.Shown.{groups_of}
use Rattle.error_events.proofs.groups.Groups.merged.Given as goal

abbrev pub invariant-loop-index : goal.invariant-loop-index
invariant-loop-index l =
    merged l.callers (groups_of l.groups) (drop l.index l.keep) (drop l.index (groups_of l.self))
    ≡ merged l.callers [] l.keep (groups_of l.self)
