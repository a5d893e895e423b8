use Rattle.std.proofs.Common.{◌≡◌}
use Rattle.sweep_plans.specs.Plans.{byte_values}
use Rattle.sweep_plans.proofs.values.byte_values.Given as goal

abbrev pub invariant-loop-new : goal.invariant-loop-new
invariant-loop-new l = l.values.items ≡ byte_values l.wanted l.old l.new
