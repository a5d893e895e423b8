use Rattle.std.proofs.Common.{List, refl, sym, subst}
use Rattle.std.proofs.lemmas.Result.{on_ok_weaker}
use Rattle.sweep_plans.specs.declared.change.Change.{Change}
use Rattle.sweeps.specs.Sweeps.{CountsMore}
use Rattle.sweeps.proofs.MemorySteps.{counts-nothing, memory-off, memory-on, no-memory}
use Rattle.sweeps.specs.Recall.{IsTouched}
use Rattle.sweeps.proofs.RecallSteps.{before-there}
use Rattle.sweeps.proofs.Steps.{counts-none}
use Rattle.sweeps.proofs.memory.try_memory.Goals as goal

pub returns-in_default : goal.returns-in_default
returns-in_default c =
    let sc = c.args.scenario.now in
    record {
      same = refl;
      met = subst (λ (xs : List Change). CountsMore c.args.counts.now c.args.counts.now c.args.settings.with_output sc
          xs c.args.out.now.items c.args.out.now.items)
          (sym (no-memory sc c.args.plan.now c.args.site.now.standing c.in_default.not-Step))
          (counts-none c.args.counts.now c.args.settings.with_output sc c.args.out.now.items);
    }

pub returns-then-not-plan-clause-met : goal.returns-then-not-plan-clause-met
returns-then-not-plan-clause-met c =
    let sc = c.args.scenario.now in
    subst (λ (xs : List Change). CountsMore c.args.counts.now c.args.counts.now c.args.settings.with_output sc xs
    c.args.out.now.items c.args.out.now.items)
    (sym (memory-off sc c.args.plan.now c.args.site.now.standing c.in-Step.step c.in-Step.pc c.in-Step.is_half
    c.in-Step.is c.if-not-plan.true))
    (counts-none c.args.counts.now c.args.settings.with_output sc c.args.out.now.items)

pub first_accesses-requires-clause-before : goal.first_accesses-requires-clause-before
first_accesses-requires-clause-before c =
    (before-there c.args.scenario.now c.in-Step.step c.in-Step.pc c.in-Step.is_half c.args.site.now c.in-Step.is
    c.requires.unmarked c.requires.stands c.requires.below c.requires.fork).shows

pub try_bytes-requires-clause-turning : goal.try_bytes-requires-clause-turning
try_bytes-requires-clause-turning c =
    let sc = c.args.scenario.now in record {
      before = before-there sc c.in-Step.step c.in-Step.pc c.in-Step.is_half c.args.site.now c.in-Step.is
          c.requires.unmarked c.requires.stands c.requires.below c.requires.fork;
      touched = subst (λ setup. IsTouched c.args.site.now.fork.machine setup c.in_ok-touched.touched) c.setup.ensures
          c.in_ok-touched.ensures;
    }

pub returns-clause-met : goal.returns-clause-met
returns-clause-met c =
    let sc = c.args.scenario.now in
    let step = c.in-Step.step in
    let wo = c.args.settings.with_output in
    let all = memory-on sc c.args.plan.now c.args.site.now.standing step c.in-Step.pc c.in-Step.is_half c.in-Step.is
    c.if-not-plan.false in
    on_ok_weaker c.try_bytes.result (λ on.
    subst (λ (xs : List Change). CountsMore c.args.counts.now c.try_bytes.new.counts wo sc xs c.args.out.now.items
    c.try_bytes.new.out.items) (sym all)
    (on c.args.counts.now c.args.out.now.items
    (counts-nothing sc step wo c.args.counts.now c.args.out.now.items))) c.try_bytes.ensures.met
