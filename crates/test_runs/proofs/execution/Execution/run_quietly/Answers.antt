use Rattle.std.proofs.Common.{◌+◌, [], arith, refl, subst}
use Rattle.guest_machine.specs.State.{State}
use Rattle.guest_machine.specs.Run.{pre}
use Rattle.guest_machine.specs.Shows.{Shows}
use Rattle.guest_machine.specs.Streams.{IsQuietFor}
use Rattle.guest_machine.specs.declared.setup.Setup.{Setup}
use Rattle.test_runs.proofs.Steps.{silently}
use Rattle.unknown_calls.proofs.Counting.{within-up}
use Rattle.test_runs.proofs.execution.Execution.run_quietly.Goals as goal

pub overflow_sub-step : goal.overflow_sub-step
overflow_sub-step c = omega (arith, c.requires.within, c.step.ensures)

pub invariant_of-result : goal.invariant_of-result
invariant_of-result c = record {
  few = omega (arith, c.args.self.few);
  counts =
      within-up c.args.self.at (c.args.self.at + c.in_ok-machine.made) (omega arith) c.args.self.unknown.items
      c.args.self.counts;
}

pub returns : goal.returns
returns c =
    silently c.only_calls_speak.ensures c.args.scenario.now c.args.self _ c.in_ok-machine.made c.requires.at refl
    (omega (arith, c.in_ok-machine.ensures.within, c.min-steps.ensures, c.step.ensures, c.requires.within)) refl refl
    refl
    refl
    (subst (λ (setup : Setup). (s : State) → Shows c.args.self.machine s
    → Shows c.in_ok-machine.machine (pre s setup [] c.in_ok-machine.made)) c.setup.ensures
    c.in_ok-machine.ensures.shows)
    (subst (λ (setup : Setup). (s : State) → Shows c.args.self.machine s → IsQuietFor s setup c.in_ok-machine.made)
    c.setup.ensures c.in_ok-machine.ensures.quiet)
