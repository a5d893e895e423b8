-- What the lines so far have left of a session: its turn, and the work on its run.
use Rattle.std.specs.Prelude.{◌≡◌, ℕ, Bool, false, List}
use Rattle.checkpoints.specs.Trails.{is_short}
use Rattle.checkpoints.specs.Work.{Work, spacing_for}
use Rattle.guest_elf.specs.declared.image.Image.{Image}
use Rattle.suppressions.specs.Rules.{Rule}
use Rattle.replay_session.specs.Turns.{Turn, opening_within}
use Rattle.replay_session.specs.Session.{turn_of, trail_of}
use Rattle.replay_session.specs.Work.{no_work, work_on}
use Rattle.replay_session.specs.declared.session.Session.{Session}

-- the turn, how far the work on the run has come, and whether the trail is short
pub record Stage : Type 0 where
  pub turn : Turn
  pub work : Work
  pub short : Bool

-- the stage of a session that was just begun, whose machines are held this many steps apart, and of one at the usual
-- distance
abbrev pub fresh_apart : ℕ → Turn → Stage
fresh_apart s turn = record { turn = turn; work = no_work s; short = false }

abbrev pub fresh : Turn → Stage
fresh turn = fresh_apart 1024 turn

-- the stage of a session that was just opened on a program, by the greatest step that may be chosen
abbrev pub opened : ℕ → Image → List ℕ → List Rule → Stage
opened limit image input rules = fresh_apart (spacing_for limit) (opening_within limit image input rules)

-- a session has a stage: the stage has its turn, the work of its trail, and whether the trail is short
pub record HasStage (session : Session) (stage : Stage) : Type 0 where
  pub turn : turn_of session ≡ stage.turn
  pub work : work_on (trail_of session) ≡ stage.work
  pub short : is_short (trail_of session) ≡ stage.short

-- something holds for each stage that the session has
abbrev pub ForEachStage : Session → (Stage → Type 0) → Type 0
ForEachStage session P = (stage : Stage) → HasStage session stage → P stage

-- the only one
abbrev pub stage_of : Session → Stage
stage_of session = record {
  turn = turn_of session;
  work = work_on (trail_of session);
  short = is_short (trail_of session);
}
