use Rattle.std.proofs.Common.{◌≡◌, ◌++◌, take}
use Rattle.std.specs.List.{flat_map}
use Rattle.error_events.specs.Shown.{groups_of}
use Rattle.replay_report.specs.Outlines.{error_outline}
use Rattle.replay_report.proofs.outlining.push_errors.Given as goal

abbrev pub invariant-loop-index : goal.invariant-loop-index
invariant-loop-index l =
    l.out.items
    ≡ l.initial.out.items ++ flat_map (error_outline l.image l.fn.callers) (take l.index (groups_of l.groups))
