use Rattle.std.proofs.Common.{take}
use Rattle.guest_machine.specs.Shows.{Shows}
use Rattle.guest_machine.specs.State.{State}
use Rattle.scenario.specs.Scenario.{with_words}
use Rattle.scenario.proofs.lent.with_words.Given as goal

abbrev pub invariant-loop-written : goal.invariant-loop-written
invariant-loop-written l =
    (s : State) → Shows l.fn.machine s → Shows l.machine (with_words s (take l.written-index l.words))
