use Rattle.std.proofs.Common.{◌≡◌, map, take}
use Rattle.sweep_plans.specs.Plans.{half_to}
use Rattle.sweep_plans.proofs.values.half_changes.Given as goal

abbrev pub invariant-loop-value : goal.invariant-loop-value
invariant-loop-value l = l.changes.items ≡ map (half_to l.addr) (take l.value-index l.values)
