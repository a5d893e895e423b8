use Rattle.std.proofs.Common.{◌≡◌, ◌++◌}
use Rattle.guest_machine.specs.Shows.{Shows}
use Rattle.guest_machine.specs.State.{State}
use Rattle.look_lines.specs.Controls.{control_lines}
use Rattle.look_lines.proofs.controls.push_controls.Given as goal

abbrev pub invariant-loop-number : goal.invariant-loop-number
invariant-loop-number l =
    (s : State) → Shows l.machine s → l.out.items ≡ l.fn.out.items ++ control_lines s.core l.number
