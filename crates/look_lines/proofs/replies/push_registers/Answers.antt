use Rattle.std.proofs.Common.{◌+◌, ◌++◌, ◌∙◌, ap, ap₂}
use Rattle.guest_machine.specs.Registers.{register}
use Rattle.report_lines.specs.Lines.{state_line}
use Rattle.look_lines.specs.Texts.{register_line}
use Rattle.look_lines.proofs.Joins.{no_more, one_more}
use Rattle.look_lines.proofs.replies.push_registers.Goals as goal

pub loop-i-init : goal.loop-i-init
loop-i-init c s shows =
    no_more (λ i. register_line (i + 1) (register s.core (i + 1))) _ _
    (c.in_ok-push_state.ensures ∙ ap₂ (λ status pc. c.args.out.now.items ++ state_line status pc)
    (c.status.ensures s shows) (c.pc.ensures s shows))

pub loop-i-preserved : goal.loop-i-preserved
loop-i-preserved c s shows =
    one_more (λ i. register_line (i + 1) (register s.core (i + 1))) c.loop-i.i _ _ _ (c.loop-i.invariant s shows)
    (c.in_ok-push_register.ensures ∙ ap (λ bits. c.loop-i.out.items ++ register_line (c.loop-i.i + 1) bits)
    (c.register.ensures s shows ∙ ap (λ r. register s.core r) c.new.ensures))
