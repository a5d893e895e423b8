use Rattle.std.proofs.Common.{◌≡◌, sym, take}
use Rattle.std.proofs.Math.Path.{transport}
use Rattle.std.proofs.lemmas.Result.{IfOk-weaker}
use Rattle.checkpoints.specs.Compares.{compares_between}
use Rattle.guest_machine.specs.Run.{pre}
use Rattle.guest_machine.specs.Shows.{Shows}
use Rattle.scenario.specs.Scenario.{first_state}
use Rattle.replay_session.proofs.trying.compares.Goals as goal

pub returns : goal.returns
returns c =
    let start = first_state c.args.scenario.now in
    let fork = c.args.fork.now in
    let setup = c.setup.ensures in
    let marks = c.marks.ensures in
    IfOk-weaker c.compares.result _ _
    (λ found is shows. transport
    (λ i. found.items ≡ take c.args.most (compares_between start (setup i) (marks i) fork.step (c.step.ensures i)))
    (is start (transport (λ i. Shows fork.machine (pre start (sym setup i) (sym marks i) fork.step)) shows)))
    c.compares.ensures
