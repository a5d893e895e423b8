use Rattle.std.proofs.Common.{[], ◌-◌, ◌≤◌}
use Rattle.guest_machine.specs.Run.{pre}
use Rattle.guest_machine.specs.Shows.{Shows}
use Rattle.guest_machine.specs.State.{State}
use Rattle.sweeps.proofs.endings.pursue.Given as goal

abbrev pub invariant-loop-turn : goal.invariant-loop-turn
invariant-loop-turn l = record {
  low : l.from ≤ l.step;
  high : l.step ≤ l.scenario.step;
  shows : (s : State) → Shows l.fn.machine s → Shows l.machine (pre s l.scenario.setup [] (l.step - l.from));
}
