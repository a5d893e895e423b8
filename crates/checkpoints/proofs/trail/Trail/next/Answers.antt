use Rattle.std.proofs.Common.{subst, sym}
use Rattle.guest_machine.specs.Run.{pre}
use Rattle.guest_machine.specs.Shows.{Shows}
use Rattle.guest_machine.specs.declared.machine.Machine.{Machine}
use Rattle.checkpoints.proofs.trail.Trail.next.Goals as goal

pub returns : goal.returns
returns c = record {
  next = λ start h. c.in_ok-found.ensures.next start
      (subst (λ (m : Machine). Shows m (pre start c.args.setup.now c.args.marks.now c.args.from))
      (sym c.copy_decoded_to.ensures) (c.in_ok-machine.ensures.shows start h));
  price = c.in_ok-found.ensures.price;
  right = c.in_ok-machine.ensures.right;
  held = c.in_ok-machine.ensures.held;
  kept = tt;
  meter = c.in_ok-machine.ensures.meter;
  short = c.in_ok-machine.ensures.short;
  loaded = c.in_ok-machine.ensures.loaded;
  spacing = c.in_ok-machine.ensures.spacing;
}
