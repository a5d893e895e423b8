use Rattle.std.proofs.Common.{rules, ◌≡◌, ◌<◌, ◌≤◌, ◌+◌, arith}
use Rattle.shadow_memory.specs.Memories.{bytes_in, shadows_in}
use Rattle.leak_search.specs.Gathering.{words_within}
use Rattle.leak_search.proofs.WordSteps.{word_place}
use Rattle.leak_search.proofs.GatherSteps.{roots_begin, edges_begin, roots_step, edges_step, roots_all, edges_all}
use Rattle.leak_search.proofs.GatherSteps.{top_none}
use Rattle.leak_search.proofs.gathering.gather_within.Goals as goal

pub loop-word-init : goal.loop-word-init
loop-word-init c = record {
  within = search rules;
  roots = roots_begin (words_within c.args.memory.now c.args.reach.low c.args.reach.high) c.args.blocks.now _;
  edges = edges_begin (words_within c.args.memory.now c.args.reach.low c.args.reach.high) c.args.blocks.now _;
}

pub loop-word-preserved : goal.loop-word-preserved
loop-word-preserved c =
    let e = c.in-Some.ensures.some in
    let memory = words_within c.args.memory.now c.args.reach.low c.args.reach.high in
    let places = word_place (bytes_in c.args.memory.now) (shadows_in c.args.memory.now) c.args.reach.low
    c.args.reach.high in
    let blocks = c.args.blocks.now in
    let next : c.in-Some-checked_add.next ≡ c.in-Some.word.address + 4 = search rules in
    let low = e.within in
    let high : c.in-Some.word.address < c.in-Some-checked_add.next = omega arith in
    let le : c.in-Some-checked_add.next ≤ c.in-Some.word.address + 4 = omega arith in
    record {
      within = search rules;
      roots =
          roots_step memory blocks c.loop-word.from c.in-Some.word.address c.in-Some.word.value
          c.in-Some-checked_add.next _ _ _ e.here e.aligned low high
          le e.least places c.loop-word.invariant.roots c.in_ok-gather_word.ensures.roots;
      edges =
          edges_step memory blocks c.loop-word.from c.in-Some.word.address c.in-Some.word.value
          c.in-Some-checked_add.next _ _ _ e.here e.aligned low high
          le e.least places c.loop-word.invariant.edges c.in_ok-gather_word.ensures.edges;
    }

pub returns-in-None-clause-roots : goal.returns-in-None-clause-roots
returns-in-None-clause-roots c =
    let e = c.in-Some.ensures.some in
    let memory = words_within c.args.memory.now c.args.reach.low c.args.reach.high in
    let places = word_place (bytes_in c.args.memory.now) (shadows_in c.args.memory.now) c.args.reach.low
    c.args.reach.high in
    let high : c.in-Some.word.address < 4294967296 = (places c.in-Some.word.address c.in-Some.word.value e.here).1 in
    let top : 4294967296 ≤ c.in-Some.word.address + 4 = search rules in
    roots_all memory c.args.blocks.now 4294967296 _ _ (top_none memory places)
    (roots_step memory c.args.blocks.now c.loop-word.from c.in-Some.word.address c.in-Some.word.value 4294967296 _ _ _
    e.here e.aligned e.within high top
    e.least places c.loop-word.invariant.roots c.in_ok-gather_word.ensures.roots)

pub returns-in-None-clause-edges : goal.returns-in-None-clause-edges
returns-in-None-clause-edges c =
    let e = c.in-Some.ensures.some in
    let memory = words_within c.args.memory.now c.args.reach.low c.args.reach.high in
    let places = word_place (bytes_in c.args.memory.now) (shadows_in c.args.memory.now) c.args.reach.low
    c.args.reach.high in
    let high : c.in-Some.word.address < 4294967296 = (places c.in-Some.word.address c.in-Some.word.value e.here).1 in
    let top : 4294967296 ≤ c.in-Some.word.address + 4 = search rules in
    edges_all memory c.args.blocks.now 4294967296 _ _ (top_none memory places)
    (edges_step memory c.args.blocks.now c.loop-word.from c.in-Some.word.address c.in-Some.word.value 4294967296 _ _ _
    e.here e.aligned e.within high top
    e.least places c.loop-word.invariant.edges c.in_ok-gather_word.ensures.edges)

pub returns-clause-roots : goal.returns-clause-roots
returns-clause-roots c =
    roots_all (words_within c.args.memory.now c.args.reach.low c.args.reach.high) c.args.blocks.now c.loop-word.from _ _
    c.in_default.ensures.none c.loop-word.invariant.roots

pub returns-clause-edges : goal.returns-clause-edges
returns-clause-edges c =
    edges_all (words_within c.args.memory.now c.args.reach.low c.args.reach.high) c.args.blocks.now c.loop-word.from _ _
    c.in_default.ensures.none c.loop-word.invariant.edges
