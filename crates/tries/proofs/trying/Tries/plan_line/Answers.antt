use Rattle.std.proofs.Common.{◌≡◌, ◌∙◌, ◌≤◌, ℕ, Err, Ok, Result, ap, length, subst, sym}
use Rattle.commands.specs.declared.fault.Fault.{Fault}
use Rattle.replay_session.specs.Session.{scenario_of}
use Rattle.tries.specs.Plans.{plan_asked}
use Rattle.tries.specs.Stages.{reply_of_tries, stage_of_tries}
use Rattle.tries.specs.Tries.{PlannedAs}
use Rattle.tries.specs.declared.plans.BytePlan.{BytePlan}
use Rattle.tries.proofs.trying.Tries.plan_line.Goals as goal

pub try_plan-requires : goal.try_plan-requires
try_plan-requires c = subst (λ (n : ℕ). c.in-Ok.plan.places.end ≤ n) c.input_len.ensures c.in-Ok.ensures.within

pub returns-in-Ok : goal.returns-in-Ok
unfolding stage_of_tries
returns-in-Ok c =
    let line = c.args.line.now in (
      c.try_plan.ensures.base,
      subst
          (λ (r : Result BytePlan Fault). PlannedAs (stage_of_tries c.args.self.now) r
          (reply_of_tries c.try_plan.new.self) (stage_of_tries c.try_plan.new.self))
          (sym c.in-Ok.is ∙ c.plan_asked.ensures.asked ∙ ap (λ (n : ℕ). plan_asked n line) c.input_len.ensures)
          c.try_plan.ensures.planned,
    )

pub returns-in-Err : goal.returns-in-Err
unfolding stage_of_tries
returns-in-Err c =
    let line = c.args.line.now in (
      c.refuse.ensures.base,
      subst
          (λ (r : Result BytePlan Fault). PlannedAs (stage_of_tries c.args.self.now) r
          (reply_of_tries c.refuse.new.self) (stage_of_tries c.refuse.new.self))
          (sym c.in-Err.is ∙ c.plan_asked.ensures.asked ∙ ap (λ (n : ℕ). plan_asked n line) c.input_len.ensures)
          c.refuse.ensures.rejected,
    )
