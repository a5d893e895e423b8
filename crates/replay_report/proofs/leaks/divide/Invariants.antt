use Rattle.std.proofs.Common.{◌≡◌, ◌++◌, take}
use Rattle.replay_report.specs.Leaks.{shown_records, hidden_records}
use Rattle.replay_report.proofs.leaks.divide.Given as goal

abbrev pub invariant-loop-record : goal.invariant-loop-record
invariant-loop-record l =
    (l.shown.items ≡ l.initial.shown.items ++ shown_records l.fn.suppressions l.fn.image
    (take l.record-index l.records))
    × (l.hidden.items ≡ l.initial.hidden.items ++ hidden_records l.fn.suppressions l.fn.image
    (take l.record-index l.records))
