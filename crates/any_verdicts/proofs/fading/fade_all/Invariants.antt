use Rattle.std.proofs.Common.{take}
use Rattle.guest_machine.specs.Shows.{Shows}
use Rattle.guest_machine.specs.State.{State}
use Rattle.any_runs.specs.Secrets.{faded_at}
use Rattle.any_verdicts.specs.Chosen.{has_address}
use Rattle.any_verdicts.proofs.fading.fade_all.Given as goal

-- the ranges so far are undefined
abbrev pub invariant-loop-span : goal.invariant-loop-span
invariant-loop-span l =
    (s : State) → Shows l.fn.machine s → Shows l.machine (faded_at (has_address (take l.span-index l.spans)) s)
