use Rattle.std.proofs.Common.{ℕ, ◌+◌, ◌-◌, ◌≤◌, subst}
use Rattle.checkpoints.specs.Work.{floor}
use Rattle.checkpoints.proofs.trail.Trail.last.Goals as goal

pub returns : goal.returns
returns c = record {
  last = λ start h. c.in_ok-found.ensures.last start (c.in_ok-_machine.ensures.right start h);
  price = subst (λ (s : ℕ). c.last_below.new.meter ≤ c.args.meter.now + (c.args.before - floor s c.args.from))
      c.in_ok-_machine.ensures.spacing c.in_ok-found.ensures.price;
  right = c.in_ok-_machine.ensures.right;
  held = c.in_ok-_machine.ensures.held;
  kept = tt;
  meter = c.in_ok-_machine.ensures.meter;
  short = c.in_ok-_machine.ensures.short;
  loaded = c.in_ok-_machine.ensures.loaded;
  spacing = c.in_ok-_machine.ensures.spacing;
}
