use Rattle.std.proofs.Common.{arith, refl}
use Rattle.unknown_calls.proofs.Counting.{within-up}
use Rattle.test_runs.proofs.Steps.{at-rest}
use Rattle.test_runs.proofs.execution.Execution.rest.Goals as goal

pub invariant_of-result : goal.invariant_of-result
invariant_of-result c = record {
  few = omega (arith, c.args.self.few, c.requires.within, c.step-last.ensures);
  counts =
      within-up c.args.self.at c.step-last.result (omega (arith, c.requires.within, c.step-last.ensures))
      c.args.self.unknown.items c.args.self.counts;
}

pub returns-clause-on : goal.returns-clause-on
returns-clause-on c =
    at-rest c.only_calls_speak.ensures c.stays_at_rest.ensures c.args.scenario.now c.args.self _ c.requires.at
    (omega (arith, c.requires.within, c.step-last.ensures)) (omega (arith, c.step-last.ensures)) refl refl refl refl
    c.rest_for.ensures
    c.requires.rests

pub returns-clause-last : goal.returns-clause-last
returns-clause-last c = c.step-last.ensures
