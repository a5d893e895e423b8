use Rattle.std.proofs.Common.{◌≡◌, take, min}
use Rattle.std.specs.Prelude.{sum_by}
use Rattle.error_events.specs.Groups.{most}
use Rattle.error_events.specs.Shown.{groups_of}
use Rattle.report_lines.proofs.lines.error_total.Given as goal

abbrev pub invariant-loop-index : goal.invariant-loop-index
invariant-loop-index l = l.total ≡ min (sum_by (λ g. g.count) (take l.index (groups_of l.groups))) most
