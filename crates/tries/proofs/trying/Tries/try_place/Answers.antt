use Rattle.std.proofs.Common.{◌≡◌, ◌<◌, ℕ, Bool, true, false, if◌then◌else◌, [], ◌∷◌, arith, length, refl, subst, sym}
use Rattle.replay_session.specs.Session.{scenario_of}
use Rattle.scenario.specs.Scenario.{Scenario}
use Rattle.sweep_plans.specs.Numbers.{below}
use Rattle.sweep_plans.specs.Plans.{byte_values}
use Rattle.replay_session.specs.Stages.{stage_of}
use Rattle.tries.specs.Plans.{attempt_at, attempts_at, attempts_below}
use Rattle.tries.specs.Stages.{stage_of_tries}
use Rattle.tries.specs.Tries.{PlanMoves, TriedUpTo, gathered}
use Rattle.tries.proofs.KeepSteps.{base-on}
use Rattle.tries.proofs.PlanSteps.{at-failure, ends, goes-on, more-values, of-base, same-scenario, stops, value_at}
use Rattle.tries.proofs.WorkSteps.{plan-more}
use Rattle.tries.proofs.trying.Tries.try_place.Goals as goal

pub loop-other-init : goal.loop-other-init
unfolding attempts_below byte_values below stage_of_tries
loop-other-init c = record {
  base = record { session = record { turn = refl; short = refl }; range = refl };
  tried = refl;
  moved = refl;
}

pub try_if-requires : goal.try_if-requires
unfolding stage_of_tries
try_if-requires c =
    subst (λ (s : Scenario). c.args.offset < length s.setup.input)
    (sym (same-scenario (stage_of_tries c.args.self.now) (stage_of_tries c.loop-other.self)
    c.loop-other.invariant.base))
    c.requires

pub loop-other-preserved : goal.loop-other-preserved
unfolding stage_of_tries
loop-other-preserved c =
    let start = stage_of_tries c.args.self.now in
    let mid = stage_of_tries c.loop-other.self in
    let new = stage_of_tries c.try_if.new.self in
    let inv = c.loop-other.invariant in
    let n = c.loop-other.other in
    let values = c.args.values.now in
    let offset = c.args.offset in
    let own = c.byte_at-own.result in
    let sc = scenario_of c.args.self.now.viewer.session in
    let range = c.args.self.now.range in
    let begun = gathered start c.args.text.now.bytes.items in
    let before = gathered mid c.loop-other.text.bytes.items in
    let after = gathered new c.try_if.new.text.bytes.items in
    record {
      base = base-on start mid new inv.base c.try_if.ensures.base;
      tried = goes-on sc range (attempts_below values offset own) (value_at values offset own)
          (more-values values offset own) n begun before after inv.tried
          (subst
          (λ (w : Bool). TriedUpTo true sc range (if w then attempt_at offset n ∷ [] else []) before after)
          c.wants_other-is_wanted.ensures
          (of-base true (λ s. if c.wants_other-is_wanted.result then attempt_at offset n ∷ [] else []) start mid before
          after inv.base c.in_ok-try_if.ensures.tried));
      moved = plan-more (attempts_below values offset own) (value_at values offset own)
          (more-values values offset own) n
          start.session mid.session new.session inv.base.session inv.moved
          (subst (λ (w : Bool). PlanMoves (if w then attempt_at offset n ∷ [] else []) mid.session new.session)
          c.wants_other-is_wanted.ensures c.in_ok-try_if.ensures.work);
    }

pub returns-in_err-try_if-clause-tried : goal.returns-in_err-try_if-clause-tried
unfolding stage_of_tries
returns-in_err-try_if-clause-tried c =
    let start = stage_of_tries c.args.self.now in
    let mid = stage_of_tries c.loop-other.self in
    let inv = c.loop-other.invariant in
    let n = c.loop-other.other in
    let values = c.args.values.now in
    let offset = c.args.offset in
    let own = c.byte_at-own.result in
    let sc = scenario_of c.args.self.now.viewer.session in
    let range = c.args.self.now.range in
    let begun = gathered start c.args.text.now.bytes.items in
    let before = gathered mid c.loop-other.text.bytes.items in
    let after = gathered (stage_of_tries c.try_if.new.self) c.try_if.new.text.bytes.items in
    at-failure c.from_residual.result _
    (λ all. TriedUpTo all sc range (attempts_at values sc.setup.input offset) begun after)
    c.from_residual.ensures.1
    (subst (λ (b : ℕ). TriedUpTo false sc range (attempts_below values offset b 256) begun after)
    c.byte_at-own.ensures
    (stops sc range (attempts_below values offset own) (value_at values offset own) (more-values values offset own) n
    256 begun before after (omega arith) inv.tried
    (subst
    (λ (w : Bool). TriedUpTo false sc range (if w then attempt_at offset n ∷ [] else []) before after)
    c.wants_other-is_wanted.ensures
    (of-base false (λ s. if c.wants_other-is_wanted.result then attempt_at offset n ∷ [] else []) start mid before
    after inv.base c.in_err-try_if.ensures.tried))))

pub returns-in_err-try_if-clause-base : goal.returns-in_err-try_if-clause-base
returns-in_err-try_if-clause-base c =
    base-on (stage_of_tries c.args.self.now) (stage_of_tries c.loop-other.self) (stage_of_tries c.try_if.new.self)
    c.loop-other.invariant.base c.try_if.ensures.base

pub returns-clause-tried : goal.returns-clause-tried
returns-clause-tried c =
    let values = c.args.values.now in
    let offset = c.args.offset in
    let own = c.byte_at-own.result in
    let sc = scenario_of c.args.self.now.viewer.session in
    let range = c.args.self.now.range in
    let begun = gathered (stage_of_tries c.args.self.now) c.args.text.now.bytes.items in
    let before = gathered (stage_of_tries c.loop-other.self) c.loop-other.text.bytes.items in
    subst (λ (b : ℕ). TriedUpTo true sc range (attempts_below values offset b 256) begun before)
    c.byte_at-own.ensures
    (ends sc range (attempts_below values offset own) (value_at values offset own) (more-values values offset own)
    c.loop-other.other 256 begun before (omega arith) c.loop-other.invariant.tried)

pub returns-clause-work : goal.returns-clause-work
returns-clause-work c =
    let values = c.args.values.now in
    let offset = c.args.offset in
    let start = stage_of c.args.self.now.viewer.session in
    let new = stage_of c.loop-other.self.viewer.session in
    let all : c.loop-other.other ≡ 256 = omega arith in
    subst (λ (b : ℕ). PlanMoves (attempts_below values offset b 256) start new) c.byte_at-own.ensures
    (subst (λ (n : ℕ). PlanMoves (attempts_below values offset c.byte_at-own.result n) start new) all
    c.loop-other.invariant.moved)

pub returns-clause-base : goal.returns-clause-base
returns-clause-base c = c.loop-other.invariant.base
