use Rattle.std.proofs.Common.{◌≡◌, ◌++◌}
use Rattle.sweep_plans.proofs.GlitchSteps.{register_flips_to}
use Rattle.sweep_plans.proofs.glitches.push_register_flips.Given as goal

abbrev pub invariant-loop-r : goal.invariant-loop-r
invariant-loop-r l = l.changes.items ≡ l.fn.changes.items ++ register_flips_to l.step l.r
