use Rattle.std.proofs.Common.{◌++◌, ◌∙◌, ap, refl}
use Rattle.guest_machine.specs.Controls.{control_seen}
use Rattle.look_lines.specs.Controls.{control_line, control_name}
use Rattle.look_lines.proofs.Joins.{no_more, one_more}
use Rattle.look_lines.proofs.controls.push_controls.Goals as goal

pub loop-number-init : goal.loop-number-init
loop-number-init c s shows =
    no_more (λ i. control_line (control_name i) (control_seen s.core i)) c.args.out.now.items _ refl

pub loop-number-preserved : goal.loop-number-preserved
loop-number-preserved c s shows =
    one_more (λ i. control_line (control_name i) (control_seen s.core i)) c.loop-number.number _ _ _
    (c.loop-number.invariant s shows)
    (c.in_ok-push_control.ensures
    ∙ ap (λ bits. c.loop-number.out.items ++ control_line (control_name c.loop-number.number) bits)
    (c.control.ensures s shows))
