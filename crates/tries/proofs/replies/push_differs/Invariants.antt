use Rattle.std.proofs.Common.{◌≡◌, ◌++◌, ◌-◌, drop, length}
use Rattle.tries.specs.Tries.{differ_lines}
use Rattle.tries.proofs.replies.push_differs.Given as goal

abbrev pub invariant-loop-i : goal.invariant-loop-i
invariant-loop-i l =
    (l.out.items ++ differ_lines (drop l.i l.own) (drop l.i l.other)) ≡ (l.fn.out.items ++ differ_lines l.own l.other)

abbrev pub decreases-loop-i : goal.decreases-loop-i
decreases-loop-i l = length l.own - l.i
