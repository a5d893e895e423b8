use Rattle.std.proofs.Common.{◌∙◌, ap, None}
use Rattle.replay_session.specs.Stages.{stage_of}
use Rattle.look_lines.specs.Ranges.{range_of}
use Rattle.tries.specs.Stages.{stage_of_tries}
use Rattle.tries.proofs.trying.Tries.new.Goals as goal

pub returns : goal.returns
unfolding stage_of_tries
returns c = λ i. record {
  session = stage_of (c.in_ok-viewer.ensures i);
  range = (c.range_of-range.ensures ∙ ap range_of c.image.ensures) i;
  seen = c.new-2.ensures.items i;
  told = c.new-3.ensures i;
  last = None;
}
