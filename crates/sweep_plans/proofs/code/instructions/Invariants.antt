use Rattle.std.proofs.Common.{◌≡◌, ◌+◌, ◌-◌, ◌*◌, ◌≤◌, ◌++◌, false, length}
use Rattle.sweep_plans.specs.Plans.{count, instructions}
use Rattle.sweep_plans.proofs.code.instructions.Given as goal

abbrev pub invariant-loop-i : goal.invariant-loop-i
invariant-loop-i l = record {
  rest : l.list.items
      ++ instructions l.image l.inside (2 * (l.fn.halves.first + l.i)) (count l.fn.halves - l.i)
      ≡ instructions l.image false (2 * l.fn.halves.first) (count l.fn.halves);
  few : length l.list.items ≤ l.i;
}
