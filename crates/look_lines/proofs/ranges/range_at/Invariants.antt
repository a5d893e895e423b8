use Rattle.std.proofs.Common.{◌≡◌, take}
use Rattle.look_lines.specs.Ranges.{range_at}
use Rattle.look_lines.proofs.ranges.range_at.Given as goal

abbrev pub invariant-loop-segment : goal.invariant-loop-segment
invariant-loop-segment l = l.range ≡ range_at l.entry (take l.segment-index l.segments)
