use Rattle.leak_search.specs.Gathering.{scene_by}
use Rattle.leak_search.proofs.Joining.{roots_join}
use Rattle.leak_search.proofs.searching.gather.Goals as goal

pub returns-clause-roots : goal.returns-clause-roots
returns-clause-roots c =
    roots_join (scene_by c.args.memory.now c.args.registers.now c.args.blocks.now) _ _ _
    c.in_ok-gather_registers.ensures c.in_ok-gather_words.ensures.roots
