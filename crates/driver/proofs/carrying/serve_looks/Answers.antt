use Rattle.checkpoints.specs.Work.{spacing_for}
use Rattle.std.proofs.Common.{ℕ, ◌∙◌, ap}
use Rattle.exit_status.proofs.EndSteps.{passed-on}
use Rattle.replay_session.specs.Turns.{opening_within}
use Rattle.replay_session.specs.Work.{no_work}
use Rattle.driver.specs.Carried.{limit_asked}
use Rattle.driver.proofs.Stages.{viewed-fault}
use Rattle.driver.proofs.carrying.serve_looks.Goals as goal

pub returns-in_err-serve : goal.returns-in_err-serve
returns-in_err-serve g c =
    let begins = c.in_ok-session.ensures in
    let limit = limit_asked c.args.asked in
    let same = c.limit_of-limit.ensures in
    let opening = λ (n : ℕ). opening_within n c.args.image c.args.input.items c.args.suppressions.items in
    rw (passed-on c.from_residual-in_err-serve.result _ c.from_residual-in_err-serve.ensures.1)
    (viewed-fault (spacing_for limit) c.in_ok-session.session (opening limit) (begins.ok ∙ ap opening same)
    (begins.work ∙ ap (λ (n : ℕ). no_work (spacing_for n)) same) begins.whole _ _ _ _ c.in_err-serve.field-0.0
    c.in_err-serve.ensures.fault)
