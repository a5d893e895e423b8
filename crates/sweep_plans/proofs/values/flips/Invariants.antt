use Rattle.std.proofs.Common.{◌≡◌}
use Rattle.sweep_plans.specs.Plans.{flips_below}
use Rattle.sweep_plans.proofs.values.flips.Given as goal

abbrev pub invariant-loop-bit : goal.invariant-loop-bit
invariant-loop-bit l = l.words.items ≡ flips_below l.old l.bit
