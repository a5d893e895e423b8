use Rattle.std.proofs.Common.{◌≡◌, take}
use Rattle.replay_report.specs.Leaks.{leak_groups}
use Rattle.replay_report.proofs.leaks.leak_groups.Given as goal

abbrev pub invariant-loop-record : goal.invariant-loop-record
invariant-loop-record l = l.groups.entries ≡ leak_groups l.fn.callers (take l.record-index l.records)
