use Rattle.std.proofs.Common.{◌≡◌}
use Rattle.sweep_plans.proofs.GlitchSteps.{byte_flips_to}
use Rattle.sweep_plans.proofs.glitches.byte_flips.Given as goal

abbrev pub invariant-loop-bit : goal.invariant-loop-bit
invariant-loop-bit l = l.changes.items ≡ byte_flips_to l.step l.addr l.bit
