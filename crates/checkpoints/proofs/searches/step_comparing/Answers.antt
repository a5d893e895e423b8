use Rattle.shadow_memory.specs.Memories.{shadows_in}
use Rattle.checkpoints.proofs.ShadowSteps.{differs-in-states}
use Rattle.checkpoints.proofs.searches.step_comparing.Goals as goal

pub returns-clause-hit : goal.returns-clause-hit
returns-clause-hit c s h =
    differs-in-states c.args.range (shadows_in c.in_ok-before.before) (shadows_in c.memory.result.now)
    (shadows_in c.memory-2.result.now) _ _
    c.differs_in-is_hit.result (c.memory.ensures.shadows s h)
    (c.memory-2.ensures.shadows _ (c.in_ok-stepped.ensures.shows s h))
    c.in_ok-before.ensures c.differs_in-is_hit.ensures.differs c.differs_in-is_hit.ensures.alike
