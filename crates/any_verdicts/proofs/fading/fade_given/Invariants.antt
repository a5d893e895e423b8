use Rattle.guest_machine.specs.Shows.{Shows}
use Rattle.guest_machine.specs.State.{State}
use Rattle.any_runs.specs.Secrets.{faded_at}
use Rattle.any_verdicts.specs.Chosen.{given_in}
use Rattle.any_verdicts.proofs.fading.fade_given.Given as goal

-- the first bytes are undefined where they may be any
abbrev pub invariant-loop-i : goal.invariant-loop-i
invariant-loop-i l =
    (s : State) → Shows l.fn.machine s → Shows l.machine (faded_at (given_in l.spans l.from l.i l.start) s)
