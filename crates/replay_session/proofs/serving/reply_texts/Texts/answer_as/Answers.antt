use Rattle.replay_session.specs.Session.{turn_of}
use Rattle.replay_session.specs.Texts.{last_text, report_in}
use Rattle.replay_session.specs.Turns.{accepted_as}
use Rattle.replay_session.proofs.ReplySteps.{replied-to}
use Rattle.replay_session.proofs.serving.reply_texts.Texts.answer_as.Goals as goal

pub returns : goal.returns
unfolding report_in
returns c =
    replied-to c.args.session.now c.command_as-reply.new.self
    (accepted_as (turn_of c.args.session.now) c.args.line.now c.args.read) c.command_as-reply.result
    c.clear.new.self.items
    c.command_as-reply.new.out.items (last_text c.put.new.self) c.command_as-reply.ensures.meets
    c.command_as-reply.ensures.work
    c.clear.ensures.items
    c.put.ensures.text
