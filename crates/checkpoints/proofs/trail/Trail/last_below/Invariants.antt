use Rattle.std.proofs.Common.{ℕ, ◌+◌, ◌-◌, ◌<◌, ◌≤◌}
use Rattle.guest_machine.specs.State.{State}
use Rattle.checkpoints.specs.Searches.{Hits}
use Rattle.checkpoints.specs.Trails.{IsRightFor, spacing_of}
use Rattle.checkpoints.specs.Work.{floor}
use Rattle.checkpoints.proofs.trail.Trail.last_below.Given as goal

abbrev pub invariant-loop-end : goal.invariant-loop-end
invariant-loop-end l = record {
  within : l.end ≤ l.before;
  unhit : (start : State) → IsRightFor l.self start l.setup l.marks
      → (j : ℕ) → l.from ≤ j → l.end ≤ j → j < l.before → Hits l.sought start l.setup l.marks j → ⊥;
  price : l.meter ≤ l.fn.meter + (l.before - l.end);
  made : l.before - l.end ≤ l.before - floor (spacing_of l.self) l.from;
  metered : l.meter ≤ 18446744073709551615;
}

abbrev pub decreases-loop-end : goal.decreases-loop-end
decreases-loop-end l = l.end
