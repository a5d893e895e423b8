use Rattle.replay_session.specs.Session.{turn_of}
use Rattle.replay_session.specs.Texts.{last_text, report_in}
use Rattle.replay_session.specs.Turns.{accepted}
use Rattle.replay_session.proofs.ReplySteps.{replied-to}
use Rattle.replay_session.proofs.serving.reply_texts.Texts.answer.Goals as goal

pub returns : goal.returns
unfolding report_in
returns c =
    replied-to c.args.session.now c.command-outcome.new.self
    (accepted (turn_of c.args.session.now) c.args.line.now) c.command-outcome.result
    c.clear.new.self.items
    c.command-outcome.new.out.items (last_text c.put.new.self) c.command-outcome.ensures.meets
    c.command-outcome.ensures.work
    c.clear.ensures.items
    c.put.ensures.text
