use Rattle.std.proofs.lemmas.Result.{IfOk-weaker}
use Rattle.checkpoints.specs.Sides.{IsSides}
use Rattle.scenario.proofs.TrailFacts.{told}
use Rattle.replay_session.specs.Session.{turn_of}
use Rattle.replay_session.proofs.session.Session.sides.Goals as goal

pub returns : goal.returns
unfolding turn_of
returns c =
    IfOk-weaker c.sides.result _ _
    (λ table tells. told c.args.self.now.scenario _ _ _ _
    (λ start setup marks step. IsSides start setup marks step c.args.places table.items) c.setup.ensures
    c.marks.ensures
    c.step.ensures tells c.args.self.now.right) c.sides.ensures
