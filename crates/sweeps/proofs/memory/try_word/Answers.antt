use Rattle.std.proofs.Common.{◌≡◌, ◌+◌, ◌∙◌, subst, refl, arith}
use Rattle.sweeps.specs.Accesses.{TurnsOn}
use Rattle.sweeps.proofs.MemorySteps.{counts-chain}
use Rattle.sweeps.proofs.memory.try_word.Goals as goal

pub loop-i-preserved : goal.loop-i-preserved
loop-i-preserved c =
    let inv = c.loop-i.invariant in
    let word = c.args.word in
    let i = c.loop-i.i in
    record {
      same = c.try_byte.ensures.same ∙ inv.same;
      met =
          counts-chain c.args.scenario.now c.loop-i.scenario c.args.turning.step word (word + i) (word + (i + 1))
          (word + i) (word + i + 1) c.args.turning.settings.with_output c.args.counts.now c.loop-i.counts
          c.try_byte.new.counts c.args.out.now.items c.loop-i.out.items c.try_byte.new.out.items inv.same refl
          (omega arith) inv.met c.in_ok-try_byte.ensures.met;
    }

pub returns-clause-met : goal.returns-clause-met
returns-clause-met c =
    let all : c.loop-i.i ≡ 4 = omega arith in
    subst (λ n. TurnsOn c.args.scenario.now c.args.turning.step c.args.turning.settings.with_output c.args.word
    (c.args.word + n) c.args.counts.now c.args.out.now.items c.loop-i.counts c.loop-i.out.items) all
    c.loop-i.invariant.met
