use Rattle.std.proofs.Common.{◌≡◌, ◌++◌, take}
use Rattle.std.specs.List.{flat_map}
use Rattle.error_events.specs.Shown.{groups_of}
use Rattle.report_lines.specs.Lines.{group_lines}
use Rattle.report_lines.proofs.lines.push_groups.Given as goal

abbrev pub invariant-loop-index : goal.invariant-loop-index
invariant-loop-index l =
    l.out.items ≡ l.initial.out.items ++ flat_map (group_lines l.image l.fn.callers) (take l.index (groups_of l.groups))
