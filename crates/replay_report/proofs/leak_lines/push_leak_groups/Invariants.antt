use Rattle.std.proofs.Common.{◌≡◌, ◌++◌, map}
use Rattle.std.specs.List.{flat_map}
use Rattle.std.specs.Map.Iter.{deref_pair}
use Rattle.replay_report.specs.LeakLines.{leak_lines}
use Rattle.replay_report.proofs.leak_lines.push_leak_groups.Given as goal

abbrev pub invariant-loop-key : goal.invariant-loop-key
invariant-loop-key l =
    l.out.items ≡ l.initial.out.items ++ flat_map (leak_lines l.image l.fn.show) (map deref_pair l.yielded)
