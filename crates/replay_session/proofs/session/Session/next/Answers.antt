use Rattle.std.proofs.Common.{◌∙◌, ap}
use Rattle.std.proofs.lemmas.Result.{IfOk-weaker}
use Rattle.checkpoints.specs.Searches.{Hits, IsNext}
use Rattle.checkpoints.specs.Words.{is_among}
use Rattle.scenario.proofs.TrailFacts.{moved, told}
use Rattle.replay_session.specs.Session.{turn_of}
use Rattle.replay_session.proofs.session.Session.next.Goals as goal

pub invariant_of-self : goal.invariant_of-self
invariant_of-self c = record {
  loads = λ a. ap (λ ranges. is_among ranges a) c.next.ensures.loaded ∙ c.args.self.now.loads a;
  right =
      moved c.args.self.now.scenario _ _ _ _ c.setup.ensures c.marks.ensures c.next.ensures.right c.args.self.now.right;
  near = c.args.self.now.near;
}

pub returns-clause-found : goal.returns-clause-found
unfolding turn_of
returns-clause-found c =
    IfOk-weaker c.next.result _ _
    (λ found tells. told c.args.self.now.scenario _ _ _ _
    (λ start setup marks step. IsNext (Hits c.args.sought start setup marks) step c.args.end found) c.setup.ensures
    c.marks.ensures
    c.step.ensures tells c.args.self.now.right) c.next.ensures.next
