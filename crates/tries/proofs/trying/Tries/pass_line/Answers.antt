use Rattle.std.proofs.Common.{◌∙◌, ap, cond, refl, None}
use Rattle.std.specs.Prelude.{Bool}
use Rattle.looks.specs.Views.{reply_of}
use Rattle.replay_session.specs.Stages.{stage_of}
use Rattle.tries.specs.LongLines.{as_passed}
use Rattle.tries.specs.Stages.{reply_of_tries, stage_of_tries}
use Rattle.tries.proofs.trying.Tries.pass_line.Goals as goal

pub returns : goal.returns
unfolding stage_of_tries reply_of_tries
returns c =
    let old = stage_of_tries c.args.self.now in
    let line = c.args.line.now in
    let viewer = c.answer.new.self in
    record {
      passes = as_passed old line (reply_of viewer) (stage_of viewer.session) c.requires c.answer.ensures;
      range = refl;
      seen = refl;
      told = refl;
      last = c.keep_if.ensures ∙ ap (λ (t : Bool). cond t old.last None) c.looks-looks.ensures;
    }
