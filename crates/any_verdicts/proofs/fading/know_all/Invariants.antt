use Rattle.std.proofs.Common.{take}
use Rattle.guest_machine.specs.Shows.{Shows}
use Rattle.guest_machine.specs.State.{State}
use Rattle.any_runs.specs.Secrets.{known_at}
use Rattle.any_verdicts.specs.Chosen.{is_revealed}
use Rattle.any_verdicts.proofs.fading.know_all.Given as goal

-- what is revealed so far is defined
abbrev pub invariant-loop-reveal : goal.invariant-loop-reveal
invariant-loop-reveal l =
    (s : State) → Shows l.fn.machine s
    → Shows l.machine (known_at (is_revealed (take l.reveal-index l.reveals) l.step) s)
