use Rattle.std.proofs.Common.{◌∙◌, ap}
use Rattle.checkpoints.proofs.KnownSteps.{known}
use Rattle.checkpoints.specs.Forks.{IsForkFor}
use Rattle.checkpoints.specs.Sides.{IsSides}
use Rattle.checkpoints.specs.Words.{is_among}
use Rattle.scenario.proofs.TrailFacts.{moved, told}
use Rattle.scenario.specs.Scenario.{first_state}
use Rattle.replay_session.specs.Session.{turn_of}
use Rattle.replay_session.proofs.session.Session.fork_point.Goals as goal

pub invariant_of-self : goal.invariant_of-self
invariant_of-self c = record {
  loads = λ a. ap (λ ranges. is_among ranges a) c.fork_of_setup.ensures.loaded ∙ c.args.self.now.loads a;
  right =
      moved c.args.self.now.scenario _ _ _ _ c.setup-setup.ensures c.marks-marks.ensures c.fork_of_setup.ensures.right
      c.args.self.now.right;
  near = c.args.self.now.near;
}

pub invariant_of-self-2 : goal.invariant_of-self-2
invariant_of-self-2 c = record {
  loads = λ a. ap (λ ranges. is_among ranges a) c.fork_of_setup.ensures.loaded ∙ c.args.self.now.loads a;
  right =
      moved c.args.self.now.scenario _ _ _ _ c.setup-setup.ensures c.marks-marks.ensures c.fork_of_setup.ensures.right
      c.args.self.now.right;
  near = c.args.self.now.near;
}

pub returns-clause-fork_point : goal.returns-clause-fork_point
unfolding turn_of
returns-clause-fork_point c =
    let sc = c.args.self.now.scenario in
    let fork = c.in_ok-fork.fork in
    let table = c.in_ok-sides.sides.items in
    record {
      fork = told sc _ _ _ _
          (λ start setup marks step. IsForkFor c.args.effect (record { start = start; setup = setup; marks = marks })
          step fork) c.setup-setup.ensures c.marks-marks.ensures c.step-step.ensures c.in_ok-fork.ensures.fork
          c.args.self.now.right;
      sides = known (first_state sc) sc.setup sc.marks fork.step c.args.range table
          (told sc _ _ _ _ (λ start setup marks step. IsSides start setup marks fork.step c.args.range table)
          c.setup-setup.ensures c.marks-marks.ensures c.step-step.ensures
          (λ start right. c.in_ok-sides.ensures start (c.fork_of_setup.ensures.right start right))
          c.args.self.now.right);
    }
