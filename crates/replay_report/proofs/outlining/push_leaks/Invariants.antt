use Rattle.std.proofs.Common.{◌≡◌, ◌++◌, map}
use Rattle.std.specs.List.{flat_map}
use Rattle.replay_report.specs.Outlines.{leak_outline}
use Rattle.replay_report.proofs.outlining.push_leaks.Given as goal

abbrev pub invariant-loop-key : goal.invariant-loop-key
invariant-loop-key l =
    l.out.items ≡ l.initial.out.items ++ flat_map (leak_outline l.image l.fn.show) (map (λ key. key.now) l.yielded)
