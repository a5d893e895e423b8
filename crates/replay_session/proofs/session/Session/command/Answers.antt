use Rattle.replay_session.specs.Session.{turn_of}
use Rattle.replay_session.specs.Turns.{accepted}
use Rattle.replay_session.proofs.ReadSteps.{meets-read, works-read}
use Rattle.replay_session.proofs.session.Session.command.Goals as goal

pub returns-clause-meets : goal.returns-clause-meets
returns-clause-meets c =
    meets-read c.answer.new.self (turn_of c.args.self.now) (accepted (turn_of c.args.self.now) c.args.line.now)
    c.accept-accepted.result c.answer.result _ _ c.accept-accepted.ensures.accepted c.answer.ensures.meets

pub returns-clause-work : goal.returns-clause-work
returns-clause-work c =
    works-read c.args.self.now c.answer.new.self (accepted (turn_of c.args.self.now) c.args.line.now)
    c.accept-accepted.result c.answer.result _ _ c.accept-accepted.ensures.accepted c.answer.ensures.meets
    c.answer.ensures.work
