use Rattle.std.proofs.Common.{◌≡◌, ◌+◌, ◌-◌, ◌≤◌, List, sym, subst, ◌∙◌, arith}
use Rattle.sweep_plans.specs.declared.change.Change.{Change}
use Rattle.sweeps.specs.LoneSkips.{Joins}
use Rattle.sweeps.specs.Standing.{pair_by, pairs_from, standing_step}
use Rattle.sweeps.specs.Sweeps.{CountsMore}
use Rattle.sweeps.specs.declared.recall.Recall.{Recall}
use Rattle.sweeps.proofs.PairSteps.{pairs-next}
use Rattle.sweeps.proofs.Steps.{counts-join}
use Rattle.sweeps.proofs.pairs.try_rest.Goals as goal

pub try_foreseen-requires-clause-joins : goal.try_foreseen-requires-clause-joins
try_foreseen-requires-clause-joins c =
    let fork = c.args.fork.now in
    subst (λ (r : Recall). Joins r.lone fork.machine fork.step c.args.end) (sym c.loop-later.invariant.recall)
    c.requires.joins

pub loop-later-preserved : goal.loop-later-preserved
loop-later-preserved c =
    let now = c.args.scenario.now in
    let first = c.args.first in
    let inv = c.loop-later.invariant in
    let later = c.loop-later.later in
    let there = c.loop-later.auto.later in
    let from = c.requires.from in
    let past = c.requires.past in
    let behind : first.step + 1 ≤ later = omega (arith, there, from, past) in
    record {
      recall = c.in_ok-try_foreseen.ensures.recall ∙ inv.recall;
      met = λ sc begun before left takes h.
          subst (λ (xs : List Change). CountsMore begun c.try_foreseen.new.counts first.with_output sc xs before
          c.try_foreseen.new.out.items)
          (sym (pairs-next sc now first.code first.step later left behind))
          (counts-join first.with_output sc begun c.loop-later.counts c.try_foreseen.new.counts
          (pairs_from sc first.code first.step (later - (first.step + 1)))
          (pair_by first.step (standing_step now first.code later)) before c.loop-later.out.items
          c.try_foreseen.new.out.items (inv.met sc begun before left takes h)
          (c.in_ok-try_foreseen.ensures.met sc left takes));
    }

pub returns : goal.returns
returns c = record {
  met = λ sc begun before left takes h.
      let first = c.args.first in
      let up = c.loop-later.auto.later-end c.requires.forward in
      let stop = c.loop-later-test.false in
      let done : c.loop-later.later ≡ c.args.end = omega (arith, up, stop) in
      subst (λ n. CountsMore begun c.loop-later.counts first.with_output sc
      (pairs_from sc first.code first.step (n - (first.step + 1))) before c.loop-later.out.items) done
      (c.loop-later.invariant.met sc begun before left takes h);
}
