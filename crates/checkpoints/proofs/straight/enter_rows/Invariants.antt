use Rattle.std.proofs.Common.{◌≡◌, ℕ, ◌+◌, ◌-◌, ◌*◌, ◌≤◌, List, length}
use Rattle.guest_machine.specs.State.{State}
use Rattle.guest_machine.specs.declared.setup.Setup.{Setup}
use Rattle.run_values.specs.declared.alteration.Alteration.{Alteration}
use Rattle.checkpoints.specs.Extending.{Extends, GoesStraight}
use Rattle.checkpoints.proofs.straight.enter_rows.Given as goal

abbrev pub invariant-loop-at : goal.invariant-loop-at
invariant-loop-at l = record {
  later : l.place ≤ l.at;
  within : l.at ≤ l.end;
  rows : length l.table ≡ length l.fn.table;
  extends : (start : State) (setup : Setup) (marks : List Alteration) (from : ℕ)
      → GoesStraight start setup marks from (l.first + 4 * l.place) 4 l.count
      → Extends start setup marks from (from + (l.at - l.place)) l.first 4 l.fn.table l.table;
}

abbrev pub decreases-loop-at : goal.decreases-loop-at
decreases-loop-at l = l.end - l.at
