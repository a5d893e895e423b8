use Rattle.std.proofs.Common.{◌≡◌, ◌+◌, ◌-◌, ◌≤◌, min, List, [], ap, refl, sym, ◌∙◌, subst}
use Rattle.std.proofs.lemmas.Result.{on_ok_weaker}
use Rattle.sweep_plans.specs.declared.change.Change.{Change}
use Rattle.sweep_plans.specs.declared.change.Change.TheVariants.{Once}
use Rattle.sweep_plans.specs.declared.change.Glitch.TheVariants.{Skip}
use Rattle.sweep_plans.specs.declared.standing.Standing.{Standing}
use Rattle.sweeps.specs.Outcomes.{TakesSteps}
use Rattle.sweeps.specs.Standing.{IsAt, pairs_from}
use Rattle.sweeps.specs.Sweeps.{CountsMore}
use Rattle.sweeps.proofs.PairSteps.{no-pairs, pairs-off, pairs-on, pairs-short}
use Rattle.sweeps.proofs.Steps.{counts-join, counts-none, counts-recalled}
use Rattle.sweeps.proofs.pairs.try_pairs.Goals as goal

pub returns-in_default : goal.returns-in_default
returns-in_default c =
    let sc = c.args.scenario.now in
    record {
      same = refl;
      met = subst (λ (xs : List Change). CountsMore c.args.counts.now c.args.counts.now c.args.settings.with_output sc
          xs c.args.out.now.items c.args.out.now.items)
          (sym (no-pairs sc c.args.plan.now c.args.site.now.standing c.in_default.not-Step))
          (counts-none c.args.counts.now c.args.settings.with_output sc c.args.out.now.items);
    }

pub try_after-requires-clause-fork : goal.try_after-requires-clause-fork
try_after-requires-clause-fork c =
    c.requires.fork (Once c.in-Step.step Skip)
    (subst (λ (s : Standing). IsAt c.args.scenario.now s (Once c.in-Step.step Skip)) (sym c.in-Step.is) (refl, tt))

pub try_after-requires-clause-steps : goal.try_after-requires-clause-steps
unfolding TakesSteps
try_after-requires-clause-steps c =
    let fork = c.requires.fork (Once c.in-Step.step Skip)
    (subst (λ (s : Standing). IsAt c.args.scenario.now s (Once c.in-Step.step Skip)) (sym c.in-Step.is) (refl, tt)) in
    (c.args.site.now.fork.step, fork.step, ap (λ n. n - c.args.site.now.fork.step) c.step-last.ensures)

pub overflow_sub-first : goal.overflow_sub-first
overflow_sub-first c =
    let fork = c.requires.fork (Once c.in-Step.step Skip)
    (subst (λ (s : Standing). IsAt c.args.scenario.now s (Once c.in-Step.step Skip)) (sym c.in-Step.is) (refl, tt)) in
    subst (λ n. c.args.site.now.fork.step ≤ n) (sym c.step-last.ensures) fork.step.within

pub returns-then-not-plan-clause-met : goal.returns-then-not-plan-clause-met
returns-then-not-plan-clause-met c =
    let sc = c.args.scenario.now in
    subst (λ (xs : List Change). CountsMore c.args.counts.now c.args.counts.now c.args.settings.with_output sc xs
    c.args.out.now.items c.args.out.now.items)
    (sym (pairs-off sc c.args.plan.now c.args.site.now.standing c.in-Step.step c.in-Step.pc c.in-Step.is_half
    c.in-Step.is c.if-not-plan.true))
    (counts-none c.args.counts.now c.args.settings.with_output sc c.args.out.now.items)

pub returns-then-end-step-clause-met : goal.returns-then-end-step-clause-met
returns-then-end-step-clause-met c =
    let sc = c.args.scenario.now in
    let end : c.min-end.result ≡ min c.args.plan.now.steps.end sc.step = c.min-end.ensures
    ∙ ap (min c.args.plan.now.steps.end) c.step-last.ensures in
    subst (λ (xs : List Change). CountsMore c.args.counts.now c.args.counts.now c.args.settings.with_output sc xs
    c.args.out.now.items c.args.out.now.items)
    (sym (pairs-short sc c.args.plan.now c.args.site.now.standing c.in-Step.step c.in-Step.pc c.in-Step.is_half
    c.in-Step.is (subst (λ n. n ≤ c.in-Step.step) end c.if-end-step.true)))
    (counts-none c.args.counts.now c.args.settings.with_output sc c.args.out.now.items)

pub returns-clause-met : goal.returns-clause-met
returns-clause-met c =
    let sc = c.args.scenario.now in
    let wo = c.args.settings.with_output in
    let old = c.args.counts.now in
    let out = c.args.out.now.items in
    let step = c.in-Step.step in
    let end : c.min-end.result ≡ min c.args.plan.now.steps.end sc.step = c.min-end.ensures
    ∙ ap (min c.args.plan.now.steps.end) c.step-last.ensures in
    let all = pairs-on sc c.args.plan.now c.args.site.now.standing step c.in-Step.pc c.in-Step.is_half c.in-Step.is
    c.if-not-plan.false in
    on_ok_weaker c.try_after.result (λ met.
    subst (λ (xs : List Change). CountsMore old c.try_after.new.counts wo sc xs out c.try_after.new.out.items)
    (ap (λ n. pairs_from sc c.args.plan.now.code step (n - (step + 1))) end ∙ sym all)
    (counts-join wo sc old (record old { recall = c.foresee.new.self }) c.try_after.new.counts []
    (pairs_from sc c.args.plan.now.code step (c.min-end.result - (step + 1))) out out c.try_after.new.out.items
    (counts-recalled wo sc old c.foresee.new.self out c.in_ok-foresee.ensures) met)) c.try_after.ensures.met
