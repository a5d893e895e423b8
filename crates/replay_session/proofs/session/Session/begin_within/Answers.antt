use Rattle.std.proofs.Common.{◌≤◌, arith, sym, subst}
use Rattle.checkpoints.specs.Edits.{IsRightForRun}
use Rattle.checkpoints.specs.Trails.{LoadsAs}
use Rattle.scenario.specs.Scenario.{Scenario, first_state, limit_of, run_of}
use Rattle.replay_session.proofs.session.Session.begin_within.Goals as goal

pub invariant_of-result : goal.invariant_of-result
unfolding first_state
invariant_of-result c = record {
  loads =
      subst (λ (sc : Scenario). LoadsAs c.in_ok-trail.trail sc.image) (sym c.in_ok-scenario.ensures)
      c.in_ok-trail.ensures.loaded;
  right =
      subst (λ (sc : Scenario). IsRightForRun c.in_ok-trail.trail (run_of sc)) (sym c.in_ok-scenario.ensures)
      (c.in_ok-trail.ensures.right _ _);
  near = subst (λ (sc : Scenario). sc.step ≤ limit_of sc) (sym c.in_ok-scenario.ensures) (omega arith);
}
