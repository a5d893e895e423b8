use Rattle.std.proofs.Common.{◌/◌, nat_lt}
use Rattle.checkpoints.specs.Words.{AreBelowBounds, DropsAt, group_size}
use Rattle.checkpoints.proofs.entering.forget_groups.Given as goal

abbrev pub invariant-loop-group : goal.invariant-loop-group
invariant-loop-group l = record {
  steps : DropsAt (λ k. nat_lt (k / group_size) l.group) l.from l.fn.steps l.steps;
  bounded : AreBelowBounds l.steps l.bounds;
}
