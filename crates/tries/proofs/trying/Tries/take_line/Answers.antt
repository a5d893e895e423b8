use Rattle.std.proofs.Common.{◌∙◌, Result, refl, subst}
use Rattle.commands.specs.declared.edit.Edit.{Edit}
use Rattle.commands.specs.declared.fault.Fault.{Fault}
use Rattle.looks.specs.Views.{giving, reply_of}
use Rattle.replay_session.specs.Replies.{RepliesAs}
use Rattle.replay_session.specs.Stages.{stage_of}
use Rattle.replay_session.specs.Turns.{accepted_as}
use Rattle.tries.specs.Stages.{reply_of_tries, stage_of_tries}
use Rattle.tries.proofs.TakeSteps.{as_taken, none-left}
use Rattle.tries.proofs.trying.Tries.take_line.Goals as goal

pub returns : goal.returns
unfolding stage_of_tries reply_of_tries
returns c =
    let old = stage_of_tries c.args.self.now in
    let line = c.args.line.now in
    let viewer = c.answer_as.new.self in
    record {
      passes = as_taken old line c.requires (reply_of viewer) (stage_of viewer.session)
          (subst
          (λ (read : Result Edit Fault). RepliesAs old.session (accepted_as old.session.turn line (giving read))
          (reply_of viewer) (stage_of viewer.session)) c.take_last-read.ensures.read c.answer_as.ensures);
      range = refl;
      seen = refl;
      told = refl;
      last = c.take_last-read.ensures.left ∙ none-left old line c.requires;
    }
