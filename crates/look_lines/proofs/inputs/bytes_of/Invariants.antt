-- The bytes so far, and those that the digits that are left write, are all.
use Rattle.std.proofs.Common.{◌≡◌, ◌-◌, ◌≤◌, ◌++◌, drop, length}
use Rattle.look_lines.specs.Inputs.{bytes_of}
use Rattle.look_lines.proofs.inputs.bytes_of.Given as goal

abbrev pub invariant-loop-at : goal.invariant-loop-at
invariant-loop-at l =
    (l.at ≤ length l.digits) × (bytes_of l.digits ≡ l.bytes.items ++ bytes_of (drop l.at l.digits))

abbrev pub decreases-loop-at : goal.decreases-loop-at
decreases-loop-at l = length l.digits - l.at
