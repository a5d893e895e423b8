use Rattle.std.proofs.Common.{List, arith, refl, subst, sym}
use Rattle.unknown_calls.proofs.Counting.{none-within}
use Rattle.unknown_calls.specs.UnknownCalls.{Within}
use Rattle.unknown_calls.specs.declared.UnknownCall.{UnknownCall}
use Rattle.test_runs.proofs.Steps.{at-start}
use Rattle.test_runs.proofs.execution.Execution.begin.Goals as goal

pub invariant_of-result : goal.invariant_of-result
invariant_of-result c = record {
  few = omega arith;
  counts = subst (λ (calls : List UnknownCall). Within 0 calls) (sym c.new.ensures.items) (none-within 0);
}

pub returns-clause-at : goal.returns-clause-at
returns-clause-at c =
    at-start c.args.scenario.now _ refl refl refl c.new.ensures.items refl c.in_ok-start.ensures
