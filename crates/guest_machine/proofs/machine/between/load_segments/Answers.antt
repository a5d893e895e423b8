use Rattle.std.proofs.Common.{◌<◌, ◌∙◌, arith}
use Rattle.shadow_memory.specs.Memories.{bytes_in, shadows_in}
use Rattle.guest_machine.proofs.LoadSteps.{bytes-step, shadows-step, bytes-none, shadows-none}
use Rattle.guest_machine.proofs.machine.between.load_segments.Goals as goal

pub loop-left-init : goal.loop-left-init
loop-left-init c = record {
  within = omega arith;
  bytes = bytes-none c.args.segments.now (bytes_in c.args.memory.now);
  shadows = shadows-none c.args.segments.now (shadows_in c.args.memory.now);
}

pub loop-left-preserved : goal.loop-left-preserved
loop-left-preserved c =
    let more : 0 < c.loop-left.left = omega arith in
    let segment = c.index-segments-left.result in
    record {
      within = omega arith;
      bytes =
          c.in_ok-fill.ensures.bytes
          ∙ bytes-step c.args.segments.now c.loop-left.left segment (bytes_in c.args.memory.now)
          (bytes_in c.loop-left.memory) more c.loop-left.invariant.within
          c.index-segments-left.is segment.in_space c.loop-left.invariant.bytes;
      shadows =
          c.in_ok-fill.ensures.shadows
          ∙ shadows-step c.args.segments.now c.loop-left.left segment (shadows_in c.args.memory.now)
          (shadows_in c.loop-left.memory) more
          c.loop-left.invariant.within c.index-segments-left.is segment.in_space c.loop-left.invariant.shadows;
    }
