use Rattle.std.proofs.Common.{◌∷◌, [], List, get_or, take, take_all, refl, sym, ◌∙◌, subst, arith}
use Rattle.std.proofs.lemmas.List.{take_more}
use Rattle.scenario.specs.Scenario.{Scenario}
use Rattle.sweep_plans.specs.declared.change.Change.{Change}
use Rattle.sweep_plans.specs.declared.change.Change.TheVariants.{Byte}
use Rattle.std.specs.Prelude.{IfSome}
use Rattle.sweeps.specs.Recall.{IsTouched}
use Rattle.sweeps.specs.Sites.{IsBefore}
use Rattle.sweeps.specs.Standing.{IsAt}
use Rattle.sweeps.specs.Sweeps.{CountsMore}
use Rattle.sweeps.proofs.Steps.{counts-join, counts-none}
use Rattle.sweeps.proofs.striking.try_changes.Goals as goal

pub loop-change-init : goal.loop-change-init
loop-change-init c = record {
  same = refl;
  here = c.requires.here;
  met = counts-none c.args.counts.now c.args.settings.with_output c.args.scenario.now c.args.out.now.items;
}

pub loop-change-preserved : goal.loop-change-preserved
loop-change-preserved c =
    let sc = c.args.scenario.now in
    let changes = c.args.changes.now in
    let i = c.loop-change.change-index in
    let change = get_or changes i (Byte 0 0) in
    let wo = c.args.settings.with_output in
    let here = subst (λ (s : Scenario). CountsMore c.loop-change.counts c.try_change.new.counts wo s (change ∷ [])
    c.loop-change.out.items c.try_change.new.out.items) c.loop-change.invariant.same c.in_ok-try_change.ensures.met in
    record {
      same = c.try_change.ensures.same ∙ c.loop-change.invariant.same;
      here = c.in_ok-try_change.ensures.here;
      met = subst (λ (xs : List Change). CountsMore c.args.counts.now c.try_change.new.counts wo sc xs
          c.args.out.now.items c.try_change.new.out.items)
          (sym (take_more changes i (Byte 0 0) c.loop-change-test.true))
          (counts-join wo sc c.args.counts.now c.loop-change.counts c.try_change.new.counts (take i changes)
          (change ∷ []) c.args.out.now.items c.loop-change.out.items c.try_change.new.out.items
          c.loop-change.invariant.met here);
    }

pub try_change-requires-clause-before : goal.try_change-requires-clause-before
try_change-requires-clause-before c =
    subst (λ (s : Scenario). IsBefore s c.args.next.step c.args.site.now) (sym c.loop-change.invariant.same)
    c.requires.before

pub try_change-requires-clause-touched : goal.try_change-requires-clause-touched
try_change-requires-clause-touched c =
    subst (λ (s : Scenario). IfSome c.args.next.touched (IsTouched c.args.site.now.fork.machine s.setup))
    (sym c.loop-change.invariant.same) c.requires.touched

pub try_change-requires-clause-at : goal.try_change-requires-clause-at
try_change-requires-clause-at c =
    let change = get_or c.args.changes.now c.loop-change.change-index (Byte 0 0) in
    subst (λ (s : Scenario). IsAt s c.args.site.now.standing change) (sym c.loop-change.invariant.same)
    (c.requires.at c.loop-change.change-index (Byte 0 0) c.loop-change-test.true)

pub try_change-requires-clause-here : goal.try_change-requires-clause-here
try_change-requires-clause-here c = c.loop-change.invariant.here

pub returns-clause-met : goal.returns-clause-met
returns-clause-met c =
    subst (λ (xs : List Change). CountsMore c.args.counts.now c.loop-change.counts c.args.settings.with_output
    c.args.scenario.now xs c.args.out.now.items c.loop-change.out.items)
    (take_all c.loop-change.change-index c.args.changes.now (omega arith)) c.loop-change.invariant.met
