use Rattle.std.proofs.Common.{rules, ◌<◌, ◌^◌}
use Rattle.shadow_memory.specs.Memories.{bytes_in, shadows_in}
use Rattle.leak_search.proofs.WordSteps.{word_none, word_here}
use Rattle.leak_search.proofs.words.next_word.Goals as goal

pub returns-in-None-clause-none : goal.returns-in-None-clause-none
returns-in-None-clause-none c =
    λ w low. word_none (bytes_in c.args.memory.now) (shadows_in c.args.memory.now) c.args.low c.args.high c.args.from
    (2 ^ 32) c.in-None.ensures.none w low (λ less. less)

pub returns-in-Some-clause-some : goal.returns-in-Some-clause-some
returns-in-Some-clause-some c =
    let bytes = bytes_in c.args.memory.now in
    let shadows = shadows_in c.args.memory.now in
    let next = c.in-Some.ensures.some in
    let small : c.in-Some.address < 2 ^ 32 = search rules in
    record {
      here =
          word_here bytes shadows c.args.low c.args.high c.args.from c.in-Some.address _ small next
          c.load.ensures.value;
      within = next.above;
      aligned = next.aligned;
      least =
          λ v low less. word_none bytes shadows c.args.low c.args.high c.args.from c.in-Some.address next.least v low
          (λ under. less);
    }
