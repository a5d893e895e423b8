use Rattle.exit_status.proofs.EndSteps.{passed-on}
use Rattle.driver.proofs.Stages.{serves-fault}
use Rattle.replay_session.specs.Replies.{Answers}
use Rattle.replay_session.specs.Stages.{fresh}
use Rattle.replay_session.specs.Turns.{opening}
use Rattle.driver.proofs.carrying.serve_session.Goals as goal

pub returns-in_err-serve : goal.returns-in_err-serve
returns-in_err-serve g c =
    let begins = c.in_ok-session.ensures in
    rw (passed-on c.from_residual-in_err-serve.result _ c.from_residual-in_err-serve.ensures.1)
    (serves-fault (Answers (fresh (opening c.args.image c.args.input.items c.args.suppressions.items)))
    (λ replies none. none) _ _ _ _ _ (c.in_err-serve.ensures.fault _
    (record { turn = begins.ok; work = begins.work; short = begins.whole })))
