use Rattle.std.proofs.Common.{◌≡◌, ◌++◌}
use Rattle.sweep_plans.specs.Glitches.{flips_at}
use Rattle.sweep_plans.proofs.glitches.push_flips.Given as goal

abbrev pub invariant-loop-bit : goal.invariant-loop-bit
invariant-loop-bit l = l.changes.items ≡ l.fn.changes.items ++ flips_at l.step l.target l.bit
