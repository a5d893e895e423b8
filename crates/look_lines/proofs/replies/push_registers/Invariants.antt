use Rattle.std.proofs.Common.{◌≡◌, ◌++◌}
use Rattle.guest_machine.specs.Shows.{Shows}
use Rattle.guest_machine.specs.State.{State}
use Rattle.report_lines.specs.Lines.{state_line}
use Rattle.look_lines.specs.Texts.{register_lines}
use Rattle.look_lines.proofs.replies.push_registers.Given as goal

abbrev pub invariant-loop-i : goal.invariant-loop-i
invariant-loop-i l =
    (s : State) → Shows l.machine s → l.out.items ≡ (l.fn.out.items ++ state_line s.core.status s.core.pc)
    ++ register_lines s.core l.i
