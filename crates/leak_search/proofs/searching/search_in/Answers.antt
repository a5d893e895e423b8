use Rattle.std.proofs.Common.{◌≡◌, List, length, ap, sym, ◌∙◌, subst}
use Rattle.std.proofs.lemmas.Result.{IfOk-weaker}
use Rattle.call_stacks.specs.declared.block.Block.{Block}
use Rattle.leak_search.specs.Gathering.{scene_by}
use Rattle.leak_search.specs.Search.{AreRecordsIn}
use Rattle.leak_search.proofs.Joining.{roots_within, edges_within, all_records}
use Rattle.leak_search.proofs.searching.search_in.Goals as goal

pub leak_kinds-requires-clause-roots : goal.leak_kinds-requires-clause-roots
leak_kinds-requires-clause-roots c =
    let scene = scene_by c.args.memory.now c.args.registers.now c.deref.result.now in
    let len : length c.deref.result.now ≡ length c.deref-3.result.now = sym c.in_ok-graph.ensures.len
    ∙ ap (λ x. length x) (sym c.deref-3.ensures.value) in
    rw c.deref-2.ensures.value (roots_within scene c.in_ok-graph.graph.roots.items _ len c.in_ok-graph.ensures.roots)

pub leak_kinds-requires-clause-edges : goal.leak_kinds-requires-clause-edges
leak_kinds-requires-clause-edges c =
    let scene = scene_by c.args.memory.now c.args.registers.now c.deref.result.now in
    rw c.deref-3.ensures.value (edges_within scene c.in_ok-graph.graph.edges.items _ (sym c.in_ok-graph.ensures.len)
    c.in_ok-graph.ensures.edges)

pub returns : goal.returns
returns c =
    let memory = c.args.memory.now in
    let registers = c.args.registers.now in
    let each = rw (c.deref-2.ensures.value, c.deref-3.ensures.value) at c.in_ok-kinds.ensures.kinds in
    let listed_by = rw (c.deref-4.ensures.value, c.deref-5.ensures.value) at c.records.ensures in
    let same : c.deref.result.now ≡ c.in_ok-blocks.blocks.items = c.deref.ensures.value in
    let len : length c.in_ok-graph.graph.edges.items ≡ length c.in_ok-blocks.blocks.items = c.in_ok-graph.ensures.len
    ∙ ap (λ x. length x) same in
    IfOk-weaker c.records.result _ _
    (λ entries by.
    let found = all_records (scene_by memory registers c.deref.result.now) c.in_ok-blocks.blocks.items
    c.in_ok-graph.graph.roots.items
    c.in_ok-graph.graph.edges.items c.in_ok-kinds.kinds.items entries.items
    (sym same) len c.in_ok-graph.ensures.roots c.in_ok-graph.ensures.edges each by in
    subst (λ (xs : List Block). AreRecordsIn (scene_by memory registers xs) entries.items) (same
    ∙ c.in_ok-blocks.ensures.all) found)
    listed_by
