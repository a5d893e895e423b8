-- The bytes so far are the same, and those that are left decide.
use Rattle.std.proofs.Common.{◌≡◌, ◌+◌, ◌-◌, ◌≤◌, drop, length}
use Rattle.scenario.specs.Edits.{alike}
use Rattle.scenario.proofs.edits.input.alike.Given as goal

abbrev pub invariant-loop-n : goal.invariant-loop-n
invariant-loop-n l =
    (l.n ≤ length l.one) × (l.n ≤ length l.other)
    × (alike l.one l.other ≡ l.n + alike (drop l.n l.one) (drop l.n l.other))

abbrev pub decreases-loop-n : goal.decreases-loop-n
decreases-loop-n l = length l.one - l.n
