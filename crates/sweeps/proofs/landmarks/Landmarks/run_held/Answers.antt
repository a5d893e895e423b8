use Rattle.std.proofs.Common.{◌∙◌, arith}
use Rattle.sweeps.proofs.landmarks.Landmarks.run_held.Goals as goal

pub loop-turn-preserved : goal.loop-turn-preserved
loop-turn-preserved c =
    let inv = c.loop-turn.invariant in
    let hold = c.in_ok-held.ensures in
    let run = c.in_ok-machine.ensures in
    let before = inv.steps in
    let same = hold.steps in
    let more = run.steps in
    let spaced = hold.spaced inv.spaced in
    record {
      first = run.first ∙ hold.first ∙ inv.first;
      steps = omega (arith, before, same, more);
      spaced = run.spaced spaced;
      follows = run.follows spaced (hold.follows c.args.setup.now inv.follows);
    }
