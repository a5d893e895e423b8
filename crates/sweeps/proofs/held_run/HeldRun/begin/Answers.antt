use Rattle.sweeps.proofs.BeginSteps.{begins-loaded, begins-right}
use Rattle.sweeps.proofs.held_run.HeldRun.begin.Goals as goal

pub invariant_of-result : goal.invariant_of-result
invariant_of-result c =
    let sc = c.args.scenario in
    let image = c.image.result.now in record {
      loads = begins-loaded image sc c.image.ensures c.requires c.in_ok-trail.trail c.in_ok-trail.ensures.loaded;
      right = begins-right image sc c.image.ensures c.requires c.in_ok-trail.trail c.in_ok-trail.ensures.right;
    }
