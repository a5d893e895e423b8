use Rattle.std.proofs.Common.{ℕ, subst}
use Rattle.replay_session.specs.Stages.{stage_of}
use Rattle.look_lines.specs.Inputs.{edit_asked, ReadsFor}
use Rattle.looks.specs.Views.{reply_of}
use Rattle.looks.proofs.Giving.{as_asked}
use Rattle.looks.proofs.viewer.Viewer.give.Goals as goal

pub returns : goal.returns
returns c =
    as_asked (stage_of c.args.self.now.session) (stage_of c.answer_as.new.self.session) c.args.line.now
    (reply_of c.answer_as.new.self) (edit_asked c.args.line.now) c.edit_asked-read.result
    (subst (λ (n : ℕ). ReadsFor n (edit_asked c.args.line.now) c.edit_asked-read.result) c.input_len.ensures
    c.edit_asked-read.ensures) c.answer_as.ensures
