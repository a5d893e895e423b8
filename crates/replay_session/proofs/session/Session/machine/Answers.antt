use Rattle.std.proofs.Common.{◌∙◌, ap}
use Rattle.std.proofs.lemmas.Result.{IfOk-weaker}
use Rattle.checkpoints.specs.Words.{is_among}
use Rattle.replay_session.specs.Session.{turn_of}
use Rattle.scenario.proofs.TrailFacts.{moved, shown}
use Rattle.replay_session.proofs.session.Session.machine.Goals as goal

pub invariant_of-self : goal.invariant_of-self
invariant_of-self c = record {
  loads = λ a. ap (λ ranges. is_among ranges a) c.at_altered.ensures.loaded ∙ c.args.self.now.loads a;
  right =
      moved c.args.self.now.scenario _ _ _ _ c.setup.ensures c.marks.ensures c.at_altered.ensures.right
      c.args.self.now.right;
  near = c.args.self.now.near;
}

pub returns-clause-shows : goal.returns-clause-shows
unfolding turn_of
returns-clause-shows c =
    IfOk-weaker c.at_altered.result _ _
    (λ machine shows. shown c.args.self.now.scenario _ _ _ _ machine c.setup.ensures c.marks.ensures c.step.ensures
    shows c.args.self.now.right) c.at_altered.ensures.shows
