use Rattle.std.proofs.lemmas.Result.{on_ok_weaker}
use Rattle.shadow_memory.specs.Memories.{bytes_in, shadows_in}
use Rattle.leak_search.proofs.ReachSteps.{roots_within, edges_within}
use Rattle.leak_search.proofs.GatherSteps.{gains_none, edges_none}
use Rattle.leak_search.proofs.gathering.gather_words.Goals as goal

pub returns-in-None-clause-roots : goal.returns-in-None-clause-roots
returns-in-None-clause-roots c = gains_none _ _ (λ starts b t. c.in-None.ensures.none starts t.0 b t.2)

pub returns-in-None-clause-edges : goal.returns-in-None-clause-edges
returns-in-None-clause-edges c = edges_none _ _ (λ starts a b t. c.in-None.ensures.none starts t.0 b t.2)

pub returns-in-Some-clause-roots : goal.returns-in-Some-clause-roots
returns-in-Some-clause-roots c =
    on_ok_weaker c.gather_within.result (roots_within (bytes_in c.args.memory.now) (shadows_in c.args.memory.now)
    c.in-Some.reach.low c.in-Some.reach.high
    c.args.blocks.now c.in-Some.ensures.low c.in-Some.ensures.high _ _)
    c.gather_within.ensures.roots

pub returns-in-Some-clause-edges : goal.returns-in-Some-clause-edges
returns-in-Some-clause-edges c =
    on_ok_weaker c.gather_within.result (edges_within (bytes_in c.args.memory.now) (shadows_in c.args.memory.now)
    c.in-Some.reach.low c.in-Some.reach.high
    c.args.blocks.now c.in-Some.ensures.low c.in-Some.ensures.high _ _)
    c.gather_within.ensures.edges
