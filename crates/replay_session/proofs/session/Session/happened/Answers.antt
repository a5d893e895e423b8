use Rattle.std.proofs.Common.{◌≡◌, ◌∙◌, ap, min, take}
use Rattle.std.proofs.lemmas.Result.{IfOk-weaker}
use Rattle.checkpoints.specs.Happenings.{happened_between}
use Rattle.checkpoints.specs.Words.{is_among}
use Rattle.scenario.proofs.TrailFacts.{moved, told}
use Rattle.replay_session.specs.Session.{turn_of}
use Rattle.replay_session.proofs.session.Session.happened.Goals as goal

pub invariant_of-self : goal.invariant_of-self
invariant_of-self c = record {
  loads = λ a. ap (λ ranges. is_among ranges a) c.happened.ensures.loaded ∙ c.args.self.now.loads a;
  right =
      moved c.args.self.now.scenario _ _ _ _ c.setup.ensures c.marks.ensures c.happened.ensures.right
      c.args.self.now.right;
  near = c.args.self.now.near;
}

pub returns-clause-found : goal.returns-clause-found
unfolding turn_of
returns-clause-found c =
    IfOk-weaker c.happened.result _ _
    (λ found tells. told c.args.self.now.scenario _ _ _ _
    (λ start setup marks step. found.items
    ≡ take c.args.most (happened_between start setup marks c.args.from (min c.args.end step))) c.setup.ensures
    c.marks.ensures
    c.step.ensures (λ start right. tells start right ∙ ap (λ before. take c.args.most (happened_between start
    c.setup.result.now c.marks.result.now c.args.from before)) c.min-before.ensures) c.args.self.now.right)
    c.happened.ensures.found
