use Rattle.checkpoints.proofs.trail.Trail.happened.Goals as goal

pub returns : goal.returns
returns c = record {
  found = λ start h. c.in_ok-found.ensures start (c.in_ok-_machine.ensures.right start h);
  right = c.in_ok-_machine.ensures.right;
  held = c.in_ok-_machine.ensures.held;
  kept = tt;
  meter = c.in_ok-_machine.ensures.meter;
  short = c.in_ok-_machine.ensures.short;
  loaded = c.in_ok-_machine.ensures.loaded;
  spacing = c.in_ok-_machine.ensures.spacing;
}
