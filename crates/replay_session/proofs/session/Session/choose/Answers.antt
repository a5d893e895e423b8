use Rattle.std.proofs.Common.{◌≤◌, sym, subst}
use Rattle.checkpoints.specs.Edits.{IsRightForRun}
use Rattle.checkpoints.specs.Trails.{LoadsAs}
use Rattle.scenario.specs.Scenario.{Scenario, first_state, limit_of, run_of}
use Rattle.replay_session.specs.Session.{turn_of}
use Rattle.replay_session.proofs.session.Session.choose.Goals as goal

pub invariant_of-self : goal.invariant_of-self
unfolding first_state turn_of
invariant_of-self c = record {
  loads =
      subst (λ (sc : Scenario). LoadsAs c.args.self.now.trail sc.image) (sym c.choose.ensures) c.args.self.now.loads;
  right =
      subst (λ (sc : Scenario). IsRightForRun c.args.self.now.trail (run_of sc)) (sym c.choose.ensures)
      c.args.self.now.right;
  near = subst (λ (sc : Scenario). sc.step ≤ limit_of sc) (sym c.choose.ensures) c.requires;
}
