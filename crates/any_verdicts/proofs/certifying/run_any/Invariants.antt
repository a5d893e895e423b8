use Rattle.guest_machine.specs.Shows.{Shows}
use Rattle.guest_machine.specs.State.{State}
use Rattle.clean_reports.specs.Uses.{NoUse}
use Rattle.any_runs.specs.Echoes.{kept}
use Rattle.any_runs.specs.Secrets.{IsSecretFit, secret_before}
use Rattle.any_verdicts.specs.Chosen.{secrets_of}
use Rattle.any_verdicts.proofs.certifying.run_any.Given as goal

-- the machine is that before a step, and each step so far was fit
abbrev pub invariant-loop-step : goal.invariant-loop-step
invariant-loop-step l =
    (start : State) → Shows l.fn.machine start → NoUse (kept start.events)
    → Shows l.machine (secret_before (secrets_of l.bytes) start l.setup l.step)
    × IsSecretFit (secrets_of l.bytes) start l.setup l.step
