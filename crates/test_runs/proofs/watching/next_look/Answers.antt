use Rattle.std.proofs.Common.{◌≡◌, arith, subst, sym, true}
use Rattle.std.proofs.lemmas.Bool.Decides.{nat_tests}
use Rattle.test_runs.specs.Executions.{state_at, step_of}
use Rattle.guest_machine.specs.Shows.{Shows}
use Rattle.guest_machine.specs.Streams.{Rests}
use Rattle.guest_machine.specs.declared.machine.Machine.{Machine}
use Rattle.guest_machine.specs.declared.setup.Setup.{Setup}
use Rattle.test_runs.specs.Overflows.{is_look}
use Rattle.test_runs.proofs.Looks.{kept-at-rest}
use Rattle.test_runs.proofs.watching.next_look.Goals as goal

pub returns-then-rests-clause-kept : goal.returns-then-rests-clause-kept
returns-then-rests-clause-kept c =
    let sc = c.args.scenario.now in
    let n = step_of c.args.execution.now in
    let look : is_look n ≡ true = grind (arith, nat_tests, c.at-at.ensures, c.if-past-eq0.true) in
    let rests = subst (λ (setup : Setup). Rests (state_at sc n) setup) c.setup.ensures
    (c.rests.ensures c.if-rests.true (state_at sc n)
    (subst (λ (m : Machine). Shows m (state_at sc n)) (sym c.machine.ensures) c.requires.at.shows)) in
    kept-at-rest c.stays_at_rest.ensures sc n c.step-last.result c.requires.kept look rests
