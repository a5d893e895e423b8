use Rattle.std.proofs.Common.{◌≡◌, ◌≤◌, ◌<◌, ◌+◌, ◌%◌, ◌∙◌, refl, sym, rules, arith}
use Rattle.sweeps.proofs.MemorySteps.{counts-chain, counts-past, turned-past, unread-between}
use Rattle.sweeps.proofs.memory.try_bytes.Goals as goal

pub loop-word-preserved : goal.loop-word-preserved
loop-word-preserved c =
    let inv = c.loop-word.invariant in
    let found = c.in-Some.ensures.some in
    let sc = c.args.scenario.now in
    let step = c.args.turning.step in
    let wo = c.args.turning.settings.with_output in
    let from = c.loop-word.from in
    let word = c.in-Some.word in
    let next : c.in-Some-checked_add.next ≡ word + 4 = search rules in
    let aligned : word % 4 ≡ 0 = found.aligned in
    let low : word ≤ 4294967296 = search rules in
    let past = turned-past sc step from word found.above
    (unread-between sc step c.args.table.now c.requires.table from word inv.aligned low found.least) in
    record {
      within = search rules;
      aligned = omega (arith, next, aligned);
      same = c.try_word.ensures.same ∙ inv.same;
      met =
          counts-chain sc c.loop-word.scenario step 0 word c.in-Some-checked_add.next word (word + 4) wo
          c.args.counts.now c.loop-word.counts c.try_word.new.counts c.args.out.now.items c.loop-word.out.items
          c.try_word.new.out.items inv.same refl (sym next)
          (counts-past sc step 0 from word wo c.args.counts.now c.loop-word.counts c.args.out.now.items
          c.loop-word.out.items past inv.met) c.in_ok-try_word.ensures.met;
    }

pub returns-in-None-clause-met : goal.returns-in-None-clause-met
returns-in-None-clause-met c =
    let inv = c.loop-word.invariant in
    let found = c.in-Some.ensures.some in
    let sc = c.args.scenario.now in
    let step = c.args.turning.step in
    let wo = c.args.turning.settings.with_output in
    let from = c.loop-word.from in
    let word = c.in-Some.word in
    let aligned : word % 4 ≡ 0 = found.aligned in
    let small : word < 4294967296 = search rules in
    let low : word ≤ 4294967296 = omega (arith, small) in
    let top : 4294967296 ≤ word + 4 = search rules in
    let last : word + 4 ≡ 4294967296 = omega (arith, aligned, small, top) in
    let past = turned-past sc step from word found.above
    (unread-between sc step c.args.table.now c.requires.table from word inv.aligned low found.least) in
    counts-chain sc c.loop-word.scenario step 0 word 4294967296 word (word + 4) wo
    c.args.counts.now c.loop-word.counts c.try_word.new.counts c.args.out.now.items c.loop-word.out.items
    c.try_word.new.out.items inv.same refl last
    (counts-past sc step 0 from word wo c.args.counts.now c.loop-word.counts c.args.out.now.items
    c.loop-word.out.items past inv.met) c.in_ok-try_word.ensures.met

pub returns-clause-met : goal.returns-clause-met
returns-clause-met c =
    let inv = c.loop-word.invariant in
    let sc = c.args.scenario.now in
    let step = c.args.turning.step in
    let from = c.loop-word.from in
    let low : from ≤ 4294967296 = let within = inv.within in omega (arith, within) in
    counts-past sc step 0 from 4294967296 c.args.turning.settings.with_output c.args.counts.now c.loop-word.counts
    c.args.out.now.items c.loop-word.out.items
    (turned-past sc step from 4294967296 low
    (unread-between sc step c.args.table.now c.requires.table from 4294967296 inv.aligned (omega arith)
    c.in_default.ensures.none)) inv.met
