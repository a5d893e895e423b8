use Rattle.std.proofs.Common.{◌≡◌, take}
use Rattle.replay_report.specs.Leaks.{sum_of}
use Rattle.replay_report.proofs.leaks.sum_of.Given as goal

abbrev pub invariant-loop-record : goal.invariant-loop-record
invariant-loop-record l = l.sum ≡ sum_of (take l.record-index l.records)
