use Rattle.std.proofs.Common.{◌≡◌, ◌∙◌, [], ap}
use Rattle.std.proofs.lemmas.Result.{IfOk-weaker}
use Rattle.checkpoints.specs.Outputs.{part}
use Rattle.checkpoints.specs.Words.{is_among}
use Rattle.guest_machine.specs.Run.{post}
use Rattle.scenario.specs.Scenario.{chosen_state}
use Rattle.scenario.proofs.TrailFacts.{moved, told}
use Rattle.replay_session.proofs.VerdictSteps.{first-unwritten}
use Rattle.replay_session.specs.Session.{turn_of}
use Rattle.replay_session.proofs.session.Session.output.Goals as goal

pub invariant_of-self : goal.invariant_of-self
invariant_of-self c = record {
  loads = λ a. ap (λ ranges. is_among ranges a) c.output.ensures.loaded ∙ c.args.self.now.loads a;
  right =
      moved c.args.self.now.scenario _ _ _ _ c.setup.ensures c.marks.ensures c.output.ensures.right
      c.args.self.now.right;
  near = c.args.self.now.near;
}

pub returns-clause-part : goal.returns-clause-part
unfolding turn_of chosen_state
returns-clause-part c =
    let sc = c.args.self.now.scenario in
    IfOk-weaker c.output.result _ _
    (λ bytes tells. told sc _ _ _ _
    (λ start setup marks step. start.output ≡ []
    → bytes.items ≡ part c.args.range (post start setup marks step).output) c.setup.ensures c.marks.ensures
    c.step.ensures (λ start right empty. tells start empty right) c.args.self.now.right (first-unwritten sc))
    c.output.ensures.part
