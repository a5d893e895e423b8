use Rattle.std.proofs.Common.{◌∙◌, ap, subst, sym}
use Rattle.checkpoints.specs.Effects.{IsOfSetup}
use Rattle.replay_session.proofs.TrySteps.{of-setup}
use Rattle.replay_session.specs.Session.{scenario_of, trail_of}
use Rattle.replay_session.specs.Turns.{Turn}
use Rattle.replay_session.specs.Work.{work_on}
use Rattle.tries.specs.Stages.{stage_of_tries}
use Rattle.tries.proofs.KeepSteps.{held-is, rested}
use Rattle.tries.proofs.trying.Tries.compare.Goals as goal

pub take_fork_point-requires : goal.take_fork_point-requires
take_fork_point-requires c =
    subst IsOfSetup (sym c.effect-effect.ensures)
    (of-setup (scenario_of c.args.self.now.viewer.session) c.args.edit c.requires.input)

pub invariant_of-self-2 : goal.invariant_of-self-2
unfolding stage_of_tries
invariant_of-self-2 c =
    let fork_point = c.in_ok-held.ensures.fork_point in
    record {
      is_held = held-is _ _ c.args.self.now.range _ c.effect-effect.result c.in_ok-held.held
          (work_on (trail_of c.compare_edit.new.self))
          (ap (λ (turn : Turn). turn.scenario) (c.compare_edit.ensures.turn
          ∙ c.take_fork_point.ensures.base.session.turn))
          c.take_fork_point.ensures.base.range fork_point.0
          (subst IsOfSetup (sym c.effect-effect.ensures)
          (of-setup (scenario_of c.args.self.now.viewer.session) c.args.edit c.requires.input)) fork_point.1
          (rested (scenario_of c.args.self.now.viewer.session).step
          (work_on (trail_of c.args.self.now.viewer.session)) (trail_of c.take_fork_point.new.self.viewer.session)
          (trail_of c.compare_edit.new.self) c.in_ok-held.ensures.work c.compare_edit.ensures.trail);
    }

pub invariant_of-self-in-Break-branch-3 : goal.invariant_of-self-in-Break-branch-3
unfolding stage_of_tries
invariant_of-self-in-Break-branch-3 c =
    let fork_point = c.in_ok-held.ensures.fork_point in
    record {
      is_held = held-is _ _ c.args.self.now.range _ c.effect-effect.result c.in_ok-held.held
          (work_on (trail_of c.compare_edit.new.self))
          (ap (λ (turn : Turn). turn.scenario) (c.compare_edit.ensures.turn
          ∙ c.take_fork_point.ensures.base.session.turn))
          c.take_fork_point.ensures.base.range fork_point.0
          (subst IsOfSetup (sym c.effect-effect.ensures)
          (of-setup (scenario_of c.args.self.now.viewer.session) c.args.edit c.requires.input)) fork_point.1
          (rested (scenario_of c.args.self.now.viewer.session).step
          (work_on (trail_of c.args.self.now.viewer.session)) (trail_of c.take_fork_point.new.self.viewer.session)
          (trail_of c.compare_edit.new.self) c.in_ok-held.ensures.work c.compare_edit.ensures.trail);
    }
