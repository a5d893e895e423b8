use Rattle.std.proofs.Common.{◌-◌, ◌≤◌, max}
use Rattle.guest_machine.specs.Shows.{Shows}
use Rattle.sweeps.specs.Accesses.{IsTable}
use Rattle.sweeps.specs.Standing.{state_before}
use Rattle.sweeps.proofs.accesses.first_accesses.Given as goal

abbrev pub invariant-loop-k : goal.invariant-loop-k
invariant-loop-k l = record {
  shows : Shows l.machine (state_before l.scenario l.k);
  table : IsTable l.scenario l.step (l.k - l.step) l.table;
  within : l.k ≤ max l.step l.scenario.step;
}
