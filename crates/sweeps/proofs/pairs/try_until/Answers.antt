use Rattle.std.proofs.Common.{◌+◌, ◌-◌, ◌≤◌, List, sym, ◌∙◌, subst, arith, refl}
use Rattle.checkpoints.specs.Forks.{IsForkFor}
use Rattle.checkpoints.specs.declared.effect.Effect.TheVariants.{After}
use Rattle.scenario.specs.Scenario.{Scenario, run_of}
use Rattle.sweep_plans.specs.declared.change.Change.{Change}
use Rattle.sweeps.specs.Standing.{pair_by, pairs_from, standing_step, state_before}
use Rattle.sweeps.specs.Sweeps.{CountsMore}
use Rattle.guest_machine.specs.Shows.{Shows}
use Rattle.std.proofs.lemmas.Result.{on_ok_weaker}
use Rattle.sweeps.specs.Landmarks.{NoneFrom}
use Rattle.sweeps.specs.LoneSkips.{Joins}
use Rattle.sweeps.proofs.ForkSteps.{for-last_fork, fork-later}
use Rattle.sweeps.proofs.PairSteps.{pairs-next, pairs-none}
use Rattle.sweeps.proofs.Steps.{counts-join, counts-none}
use Rattle.sweeps.proofs.pairs.try_until.Goals as goal

pub loop-later-init : goal.loop-later-init
loop-later-init c =
    let now = c.args.scenario.now in
    let first = c.args.first in
    let led = c.requires.led in
    let within : first.step ≤ now.step = let below = c.requires.below in omega (arith, below) in
    record {
      same = refl;
      past = omega arith;
      last_fork = (
        first.step,
        refl,
        fork-later now c.setup.result.now c.marks.result.now first.step led.0 c.args.fork.now
            c.in_ok-last_fork.last_fork first.step c.setup.ensures c.marks.ensures within
            (c.in_ok-last_fork.ensures.fork first.step led.0) led.1
            led.2,
      );
      met = λ sc left takes.
          subst (λ (xs : List Change). CountsMore c.args.counts.now c.args.counts.now first.with_output sc xs
          c.args.out.now.items c.args.out.now.items)
          (sym (pairs-none sc first.code first.step (first.step + 1 - (first.step + 1)) (omega arith)))
          (counts-none c.args.counts.now first.with_output sc c.args.out.now.items);
    }

pub loop-later-preserved : goal.loop-later-preserved
loop-later-preserved c =
    let old = c.args.scenario.now in
    let first = c.args.first in
    let inv = c.loop-later.invariant in
    let later = c.loop-later.later in
    record {
      same = c.try_later.ensures.same ∙ inv.same;
      past = let past = inv.past in omega (arith, past);
      last_fork = (
        later,
        refl,
        subst (λ (s : Scenario). IsForkFor (After later) (run_of s) s.step c.in_ok-last_fork-2.last_fork) inv.same
            c.in_ok-last_fork-2.ensures.fork,
      );
      met = λ sc left takes.
          let now-left = inv.same ∙ left in
          subst (λ (xs : List Change). CountsMore c.args.counts.now c.try_later.new.counts first.with_output sc xs
          c.args.out.now.items c.try_later.new.out.items)
          (sym (pairs-next sc c.loop-later.scenario first.code first.step later now-left inv.past))
          (counts-join first.with_output sc c.args.counts.now c.loop-later.counts c.try_later.new.counts
          (pairs_from sc first.code first.step (later - (first.step + 1)))
          (pair_by first.step (standing_step c.loop-later.scenario first.code later))
          c.args.out.now.items c.loop-later.out.items c.try_later.new.out.items (inv.met sc left takes)
          (c.in_ok-last_fork-2.ensures.met sc now-left takes));
    }

pub try_rest-requires-clause-joins : goal.try_rest-requires-clause-joins
try_rest-requires-clause-joins c =
    let step = c.joins.ensures.step c.if-joins.true in
    subst (λ n. Joins c.try_later.new.counts.recall.lone c.in_ok-last_fork-2.last_fork.machine n c.args.end) (sym step)
    (c.joins.ensures.joins c.if-joins.true)

pub try_rest-requires-clause-shows : goal.try_rest-requires-clause-shows
try_rest-requires-clause-shows c =
    let last_fork = c.in_ok-last_fork-2.last_fork in
    let old = c.loop-later.scenario in
    subst (λ (s : Scenario). Shows last_fork.machine (state_before s last_fork.step)) (sym c.try_later.ensures.same)
    (for-last_fork old c.loop-later.later last_fork c.in_ok-last_fork-2.ensures.fork).1

pub try_rest-requires-clause-from : goal.try_rest-requires-clause-from
try_rest-requires-clause-from c =
    let step = c.joins.ensures.step c.if-joins.true in
    omega (arith, step)

pub try_rest-requires-clause-past : goal.try_rest-requires-clause-past
try_rest-requires-clause-past c =
    let step = c.joins.ensures.step c.if-joins.true in
    let past = c.loop-later.invariant.past in
    omega (arith, step, past)

pub try_rest-requires-clause-within : goal.try_rest-requires-clause-within
try_rest-requires-clause-within c =
    subst (λ (s : Scenario). c.args.end ≤ s.step) (sym (c.try_later.ensures.same ∙ c.loop-later.invariant.same))
    c.requires.within

pub try_rest-requires-clause-quiet : goal.try_rest-requires-clause-quiet
try_rest-requires-clause-quiet c =
    subst (λ (s : Scenario). NoneFrom (c.args.first.step + 1) s.marks)
    (sym (c.try_later.ensures.same ∙ c.loop-later.invariant.same)) c.requires.quiet

pub returns-then-joins-clause-same : goal.returns-then-joins-clause-same
returns-then-joins-clause-same c = c.try_later.ensures.same ∙ c.loop-later.invariant.same

pub returns-then-joins-clause-met : goal.returns-then-joins-clause-met
returns-then-joins-clause-met c =
    let first = c.args.first in
    let inv = c.loop-later.invariant in
    let later = c.loop-later.later in
    on_ok_weaker c.try_rest.result (λ rest sc left takes.
    let now-left = inv.same ∙ left in
    rest sc c.args.counts.now c.args.out.now.items (c.try_later.ensures.same ∙ now-left) takes
    (subst (λ (xs : List Change). CountsMore c.args.counts.now c.try_later.new.counts first.with_output sc xs
    c.args.out.now.items c.try_later.new.out.items)
    (sym (pairs-next sc c.loop-later.scenario first.code first.step later now-left inv.past))
    (counts-join first.with_output sc c.args.counts.now c.loop-later.counts c.try_later.new.counts
    (pairs_from sc first.code first.step (later - (first.step + 1)))
    (pair_by first.step (standing_step c.loop-later.scenario first.code later))
    c.args.out.now.items c.loop-later.out.items c.try_later.new.out.items (inv.met sc left takes)
    (c.in_ok-last_fork-2.ensures.met sc now-left takes)))) c.try_rest.ensures.met
