use Rattle.std.proofs.Common.{◌+◌, refl}
use Rattle.sweeps.specs.declared.landmarks.Landmarks.{Landmarks}
use Rattle.sweeps.proofs.LandmarkSteps.{follows-on, spaced-on}
use Rattle.sweeps.proofs.landmarks.Landmarks.run.Goals as goal

pub returns : goal.returns
returns c =
    let old = c.args.self.now in
    let new : Landmarks = record old { steps = old.steps + c.args.steps } in
    record {
      first = refl;
      steps = refl;
      machines = refl;
      follows = follows-on c.args.setup.now old new c.args.machine c.in_ok-next.next c.args.steps refl refl
          c.in_ok-next.ensures.shows;
      spaced = spaced-on old new c.args.steps refl refl;
    }
