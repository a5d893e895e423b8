use Rattle.std.proofs.Common.{◌≡◌, ◌+◌, ◌*◌, ◌≤◌}
use Rattle.sweeps.specs.Landmarks.{AreSpaced, Follows}
use Rattle.sweeps.proofs.landmarks.Landmarks.run_held.Given as goal

abbrev pub invariant-loop-turn : goal.invariant-loop-turn
invariant-loop-turn l = record {
  first : l.self.first ≡ l.fn.self.first;
  steps : l.self.steps ≤ l.fn.self.steps + 16 * l._turn;
  spaced : AreSpaced l.self;
  follows : Follows l.setup l.self l.machine;
}
