use Rattle.std.proofs.Common.{rules}
use Rattle.leak_search.specs.Gathering.{scene_by}
use Rattle.leak_search.specs.Search.{BlockPointsTo}
use Rattle.leak_search.proofs.Joining.{edges_back}
use Rattle.leak_search.proofs.searching.graph_of.Goals as goal

pub returns-clause-edges : goal.returns-clause-edges
returns-clause-edges c =
    let gained = rw c.deref_mut.ensures.value at c.in_ok-gather.ensures.edges in
    edges_back (BlockPointsTo (scene_by c.args.memory.now c.args.registers.now c.args.blocks.now)) _
    c.in_ok-edges.edges.items c.gather.new.edges (search rules) c.in_ok-edges.ensures.none gained
