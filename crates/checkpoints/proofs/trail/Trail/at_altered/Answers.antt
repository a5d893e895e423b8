use Rattle.guest_machine.specs.Run.{post}
use Rattle.checkpoints.proofs.trail.Trail.at_altered.Goals as goal

pub returns : goal.returns
unfolding post
returns c = record {
  shows = λ start h. c.in_ok-marked.ensures _ (c.in_ok-machine.ensures.shows start h);
  right = c.in_ok-machine.ensures.right;
  held = c.in_ok-machine.ensures.held;
  kept = tt;
  meter = c.in_ok-machine.ensures.meter;
  short = c.in_ok-machine.ensures.short;
  loaded = c.in_ok-machine.ensures.loaded;
  spacing = c.in_ok-machine.ensures.spacing;
}
