use Rattle.std.proofs.Common.{◌≡◌, ◌+◌, ◌<◌, ℕ, true, false, arith, length, refl, subst, sym}
use Rattle.replay_session.specs.Session.{scenario_of}
use Rattle.scenario.specs.Scenario.{Scenario}
use Rattle.sweep_plans.specs.Laws.{numbers_from}
use Rattle.sweep_plans.specs.Plans.{count}
use Rattle.replay_session.specs.Stages.{stage_of}
use Rattle.tries.specs.Plans.{attempts_at, attempts_of}
use Rattle.tries.specs.Stages.{stage_of_tries}
use Rattle.tries.specs.Tries.{PlanMoves, TriedUpTo, gathered}
use Rattle.tries.proofs.KeepSteps.{base-on}
use Rattle.tries.proofs.PlanSteps.{at-failure, attempts_to, ends, goes-on, more-places, of-base, same-scenario, stops}
use Rattle.tries.proofs.WorkSteps.{plan-more}
use Rattle.tries.proofs.trying.Tries.try_places.Goals as goal

pub loop-i-init : goal.loop-i-init
unfolding numbers_from stage_of_tries
loop-i-init c = record {
  base = record { session = record { turn = refl; short = refl }; range = refl };
  tried = refl;
  moved = refl;
}

pub try_place-requires : goal.try_place-requires
unfolding stage_of_tries
try_place-requires c =
    let first = c.args.plan.now.places.first in
    let i = c.loop-i.i in
    let within : first + i < length (scenario_of c.args.self.now.viewer.session).setup.input =
    omega (arith, c.count-i-end.ensures, c.requires) in
    subst (λ (s : Scenario). first + i < length s.setup.input)
    (sym (same-scenario (stage_of_tries c.args.self.now) (stage_of_tries c.loop-i.self) c.loop-i.invariant.base)) within

pub loop-i-preserved : goal.loop-i-preserved
unfolding stage_of_tries
loop-i-preserved c =
    let start = stage_of_tries c.args.self.now in
    let mid = stage_of_tries c.loop-i.self in
    let new = stage_of_tries c.try_place.new.self in
    let inv = c.loop-i.invariant in
    let n = c.loop-i.i in
    let values = c.args.plan.now.values in
    let first = c.args.plan.now.places.first in
    let sc = scenario_of c.args.self.now.viewer.session in
    let range = c.args.self.now.range in
    let begun = gathered start c.args.text.now.bytes.items in
    let before = gathered mid c.loop-i.text.bytes.items in
    let after = gathered new c.try_place.new.text.bytes.items in
    record {
      base = base-on start mid new inv.base c.try_place.ensures.base;
      tried = goes-on sc range (attempts_to values sc.setup.input first)
          (λ k. attempts_at values sc.setup.input (first + k)) (more-places values sc.setup.input first) n begun before
          after inv.tried
          (of-base true (λ (s : Scenario). attempts_at values s.setup.input (first + n)) start mid before after inv.base
          c.in_ok-try_place.ensures.tried);
      moved = plan-more (attempts_to values sc.setup.input first) (λ k. attempts_at values sc.setup.input (first + k))
          (more-places values sc.setup.input first) n start.session mid.session new.session inv.base.session inv.moved
          (subst (λ (s : Scenario). PlanMoves (attempts_at values s.setup.input (first + n)) mid.session new.session)
          (same-scenario start mid inv.base) c.in_ok-try_place.ensures.work);
    }

pub returns-in_err-try_place-clause-tried : goal.returns-in_err-try_place-clause-tried
unfolding stage_of_tries attempts_of
returns-in_err-try_place-clause-tried c =
    let start = stage_of_tries c.args.self.now in
    let mid = stage_of_tries c.loop-i.self in
    let inv = c.loop-i.invariant in
    let n = c.loop-i.i in
    let plan = c.args.plan.now in
    let values = plan.values in
    let first = plan.places.first in
    let sc = scenario_of c.args.self.now.viewer.session in
    let range = c.args.self.now.range in
    let begun = gathered start c.args.text.now.bytes.items in
    let before = gathered mid c.loop-i.text.bytes.items in
    let after = gathered (stage_of_tries c.try_place.new.self) c.try_place.new.text.bytes.items in
    at-failure c.from_residual.result _ (λ all. TriedUpTo all sc range (attempts_of plan sc.setup.input) begun after)
    c.from_residual.ensures.1
    (stops sc range (attempts_to values sc.setup.input first) (λ k. attempts_at values sc.setup.input (first + k))
    (more-places values sc.setup.input first) n (count plan.places) begun before after
    (omega (arith, c.count-i-end.ensures)) inv.tried
    (of-base false (λ (s : Scenario). attempts_at values s.setup.input (first + n)) start mid before after inv.base
    c.in_err-try_place.ensures.tried))

pub returns-in_err-try_place-clause-base : goal.returns-in_err-try_place-clause-base
returns-in_err-try_place-clause-base c =
    base-on (stage_of_tries c.args.self.now) (stage_of_tries c.loop-i.self) (stage_of_tries c.try_place.new.self)
    c.loop-i.invariant.base c.try_place.ensures.base

pub returns-clause-tried : goal.returns-clause-tried
unfolding attempts_of
returns-clause-tried c =
    let plan = c.args.plan.now in
    let sc = scenario_of c.args.self.now.viewer.session in
    ends sc c.args.self.now.range (attempts_to plan.values sc.setup.input plan.places.first)
    (λ k. attempts_at plan.values sc.setup.input (plan.places.first + k))
    (more-places plan.values sc.setup.input plan.places.first) c.loop-i.i (count plan.places)
    (gathered (stage_of_tries c.args.self.now) c.args.text.now.bytes.items)
    (gathered (stage_of_tries c.loop-i.self) c.loop-i.text.bytes.items) (omega (arith, c.count-i-end.ensures))
    c.loop-i.invariant.tried

pub returns-clause-work : goal.returns-clause-work
unfolding attempts_of
returns-clause-work c =
    let plan = c.args.plan.now in
    let sc = scenario_of c.args.self.now.viewer.session in
    let all : c.loop-i.i ≡ count plan.places = omega (arith, c.count-i-end.ensures) in
    subst
    (λ (n : ℕ). PlanMoves (attempts_to plan.values sc.setup.input plan.places.first n)
    (stage_of c.args.self.now.viewer.session) (stage_of c.loop-i.self.viewer.session)) all c.loop-i.invariant.moved

pub returns-clause-base : goal.returns-clause-base
returns-clause-base c = c.loop-i.invariant.base
