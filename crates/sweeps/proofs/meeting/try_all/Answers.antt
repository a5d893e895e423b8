use Rattle.std.proofs.Common.{arith, ◌∙◌, sym, subst, List}
use Rattle.std.proofs.lemmas.Result.{on_ok_weaker}
use Rattle.std.specs.List.{All}
use Rattle.sweep_plans.specs.declared.change.Change.{Change}
use Rattle.sweeps.specs.Standing.{IsAt}
use Rattle.sweeps.specs.Sweeps.{CountsMore}
use Rattle.sweeps.proofs.PlaceSteps.{all-at, next-below}
use Rattle.sweeps.proofs.Steps.{counts-same}
use Rattle.sweeps.proofs.meeting.try_all.Goals as goal

pub changes-requires : goal.changes-requires
changes-requires c =
    next-below c.args.scenario.now.step c.args.site.now.standing (omega (arith, c.requires.near)) c.requires.below

pub try_there-requires-clause-at : goal.try_there-requires-clause-at
try_there-requires-clause-at c =
    subst (All (IsAt c.args.scenario.now c.args.site.now.standing)) (sym (c.deref.ensures.value
    ∙ c.in_ok-changes.ensures))
    (all-at c.args.scenario.now c.args.plan.now c.args.site.now.standing c.requires.near c.requires.unmarked
    c.requires.below)

pub returns-clause-met : goal.returns-clause-met
returns-clause-met c =
    on_ok_weaker c.try_there.result (λ met.
    subst (λ (xs : List Change). CountsMore c.args.counts.now c.try_there.new.counts c.args.settings.with_output
    c.args.scenario.now xs c.args.out.now.items c.try_there.new.out.items) (c.deref.ensures.value
    ∙ c.in_ok-changes.ensures)
    (counts-same c.args.settings.with_output c.args.scenario.now c.args.counts.now c.hold_course.new.self
    c.try_there.new.counts c.deref.result.now c.args.out.now.items c.try_there.new.out.items
    c.in_ok-hold_course.ensures met))
    c.try_there.ensures.met
