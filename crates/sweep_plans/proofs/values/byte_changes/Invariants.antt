use Rattle.std.proofs.Common.{◌≡◌, map, take}
use Rattle.sweep_plans.specs.Plans.{byte_to}
use Rattle.sweep_plans.proofs.values.byte_changes.Given as goal

abbrev pub invariant-loop-value : goal.invariant-loop-value
invariant-loop-value l = l.changes.items ≡ map (byte_to l.offset) (take l.value-index l.values)
