use Rattle.std.proofs.Common.{◌≡◌, ◌-◌, length}
use Rattle.sweeps.specs.Landmarks.{AreSpaced, Follows}
use Rattle.sweeps.specs.LoneSkips.{AreForeseen}
use Rattle.sweeps.proofs.lone_skips.LoneSkips.along.Given as goal

abbrev pub invariant-loop-step : goal.invariant-loop-step
invariant-loop-step l = record {
  first : l.skips.landmarks.first ≡ l.first;
  steps : l.skips.landmarks.steps ≡ l.step - l.first;
  rows : length l.skips.rows.items ≡ l.step - l.first;
  spaced : AreSpaced l.skips.landmarks;
  follows : Follows l.scenario.setup l.skips.landmarks l.machine;
  foreseen : AreForeseen l.settings.with_output l.scenario l.skips;
}
