use Rattle.std.proofs.Common.{◌-◌, ◌^◌, ◌<◌}
use Rattle.leak_search.specs.Gathering.{Gains, EdgesGain, RootBelow, EdgeBelow, words_within}
use Rattle.leak_search.proofs.gathering.gather_within.Given as goal

abbrev pub invariant-loop-word : goal.invariant-loop-word
invariant-loop-word l = record {
  within : l.from < 2 ^ 32;
  roots : Gains (RootBelow (words_within l.memory l.reach.low l.reach.high) l.blocks l.from) l.fn.roots.items
      l.roots.items;
  edges : EdgesGain (EdgeBelow (words_within l.memory l.reach.low l.reach.high) l.blocks l.from) l.fn.edges l.edges;
}

abbrev pub decreases-loop-word : goal.decreases-loop-word
decreases-loop-word l = 2 ^ 32 - l.from
