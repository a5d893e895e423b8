use Rattle.std.proofs.Common.{◌<◌, ◌^◌, arith}
use Rattle.shadow_memory.specs.Memories.{shadows_in}
use Rattle.checkpoints.proofs.ShadowSteps.{all-alike}
use Rattle.checkpoints.proofs.searches.differs_in.Goals as goal

pub returns-clause-alike : goal.returns-clause-alike
returns-clause-alike c told =
    let small : c.args.range.start < 2 ^ 32 = omega arith in
    all-alike c.args.range (shadows_in c.args.before.now) (shadows_in c.args.after.now) small
    (λ j below. c.loop-i.invariant.alike j (omega arith))
