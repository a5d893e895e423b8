use Rattle.std.proofs.Common.{◌∙◌, arith, inr, sym}
use Rattle.guest_machine.proofs.machine.Machine.rests.Goals as goal

pub returns-else-not-runs : goal.returns-else-not-runs
returns-else-not-runs c h s shows =
    inr (record {
      within = omega (arith, c.pc-pc.ensures s shows);
      counted = omega (arith, c.steps-steps.ensures s shows);
      idle = sym (c.is_idle.ensures s shows) ∙ h;
    })
