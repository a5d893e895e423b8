use Rattle.std.proofs.Common.{◌*◌, ◌&&◌, nat_le, nat_lt}
use Rattle.checkpoints.specs.Words.{DropsAt, group_size}
use Rattle.checkpoints.proofs.entering.forget_group.Given as goal

abbrev pub invariant-loop-place : goal.invariant-loop-place
invariant-loop-place l = DropsAt (λ k. nat_le (group_size * l.group) k && nat_lt k l.place) l.from l.fn.steps l.steps
