use Rattle.std.proofs.Common.{◌≡◌, take}
use Rattle.std.proofs.lemmas.Result.{IfOk-weaker}
use Rattle.checkpoints.specs.Compares.{compares_between}
use Rattle.scenario.specs.Scenario.{first_state}
use Rattle.replay_session.proofs.TrySteps.{led}
use Rattle.replay_session.proofs.trying.compares_edited.Goals as goal

pub returns : goal.returns
returns c =
    let sc = c.args.scenario.now in
    let fork = c.args.fork.now in
    IfOk-weaker c.compares_edited.result _ _
    (λ found is one last leads for. led c.args.effect one sc c.setup.result.now c.marks.result.now c.step.result
    (λ setup marks step. found.items ≡ take c.args.most (compares_between (first_state sc) setup marks fork.step step))
    c.setup.ensures c.marks.ensures c.step.ensures (λ l. is one (first_state sc) last l for) leads)
    c.compares_edited.ensures
