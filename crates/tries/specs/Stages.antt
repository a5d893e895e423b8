-- What a session of tries has left: its stage, and the text of its last reply.
use Rattle.std.specs.Prelude.{List, ℕ, if◌then◌else◌}
use Rattle.looks.specs.Views.{reply_of}
use Rattle.replay_session.specs.Stages.{stage_of}
use Rattle.texts.specs.Tallied.{entries_of}
use Rattle.tries.specs.Tries.{TriesStage}
use Rattle.tries.specs.declared.trying.Tries.{Tries}

unfoldable pub stage_of_tries : Tries → TriesStage
stage_of_tries tries = record {
  session = stage_of tries.viewer.session;
  range = tries.range;
  seen = tries.seen.items;
  told = entries_of tries.told;
  last = tries.last;
}

-- the text of the last reply
unfoldable pub reply_of_tries : Tries → List ℕ
reply_of_tries tries = if tries.is_shown then tries.shown.items else reply_of tries.viewer
