use Rattle.std.proofs.Common.{ℕ, ◌*◌, ◌-◌, ◌<◌, ◌≤◌, length, true, false}
use Rattle.checkpoints.specs.Trails.{machines_of, spacing_of}
use Rattle.checkpoints.specs.Edits.{TellsShown}
use Rattle.checkpoints.proofs.trail.Trail.held_before.Given as goal

abbrev pub invariant-loop-kept : goal.invariant-loop-kept
invariant-loop-kept l = record {
  some : 0 < l.kept;
  more : l.kept ≤ l.end;
  within : l.end ≤ length (machines_of l.self);
  from : (i : ℕ) → l.end ≤ i → i < length (machines_of l.self)
      → TellsShown l.effect l.self (spacing_of l.self * i) true;
  last : TellsShown l.effect l.self (spacing_of l.self * (l.kept - 1)) false;
}

abbrev pub decreases-loop-kept : goal.decreases-loop-kept
decreases-loop-kept l = l.end - l.kept
