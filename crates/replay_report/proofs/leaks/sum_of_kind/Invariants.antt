use Rattle.std.proofs.Common.{◌≡◌, take}
use Rattle.replay_report.specs.Leaks.{of_kind, sum_of}
use Rattle.replay_report.proofs.leaks.sum_of_kind.Given as goal

abbrev pub invariant-loop-record : goal.invariant-loop-record
invariant-loop-record l = l.sum ≡ sum_of (of_kind l.fn.kind (take l.record-index l.records))
