use Rattle.std.proofs.Common.{◌∙◌, ap, sym}
use Rattle.checkpoints.specs.Outputs.{part}
use Rattle.checkpoints.proofs.OutputSteps.{post-output}
use Rattle.checkpoints.proofs.trail.Trail.output.Goals as goal

pub returns : goal.returns
returns c = record {
  part = λ start empty h.
      c.in_ok-bytes.ensures start empty (c.in_ok-machine.ensures.right start h)
      (c.output_len-written.ensures _ (c.in_ok-machine.ensures.shows start h))
      ∙ ap (part c.args.range) (sym (post-output start c.args.setup.now c.args.marks.now c.args.step));
  right = c.in_ok-machine.ensures.right;
  held = c.in_ok-machine.ensures.held;
  kept = tt;
  meter = c.in_ok-machine.ensures.meter;
  short = c.in_ok-machine.ensures.short;
  loaded = c.in_ok-machine.ensures.loaded;
  spacing = c.in_ok-machine.ensures.spacing;
}
