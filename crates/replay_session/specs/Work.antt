-- How a line moves a session's work: the last step at which a machine is held, and the number of executed steps.
use Rattle.std.specs.Prelude.{◌≡◌, ℕ, Bool, false, List, Result, Ok, Err}
use Rattle.checkpoints.specs.Edits.{MayShorten as ShortenedBy}
use Rattle.checkpoints.specs.Effects.{EffectShows}
use Rattle.checkpoints.specs.Trails.{last_held, meter_of, is_short, spacing_of}
use Rattle.checkpoints.specs.Work.{Work, ReportMoves, EditMoves, LeavesWork}
use Rattle.checkpoints.specs.declared.trail.Trail.{Trail}
use Rattle.scenario.specs.Edits.{row}
use Rattle.scenario.specs.Scenario.{Scenario, first_state}
use Rattle.replay_session.specs.Turns.{accepted}
use Rattle.replay_session.specs.Session.{turn_of, scenario_of, trail_of}
use Rattle.replay_session.specs.declared.session.Session.{Session}
use Rattle.commands.specs.declared.fault.Fault.{Fault}
use Rattle.commands.specs.declared.fault.Fault.TheVariants.{Memory}
use Rattle.replay_session.specs.declared.reply.Reply.{Reply}
use Rattle.commands.specs.declared.command.Command.{Command}
use Rattle.commands.specs.declared.command.Command.TheVariants.{Report, Edit}

-- the steps at which an accepted command may show in the run: an edit where its effect shows, and anything else nowhere
abbrev pub ShowsAt : Scenario → Command → ℕ → Type 0
ShowsAt sc (Edit edit) k = EffectShows (row sc edit).effect (first_state sc) sc.setup sc.marks k
ShowsAt sc _ k = ⊥

-- how far the work on a trail has come
abbrev pub work_on : Trail → Work
work_on trail = record { apart = spacing_of trail; last = last_held trail; made = meter_of trail }

-- what a session begins with, whose machines are held this many steps apart
abbrev pub no_work : ℕ → Work
no_work s = record { apart = s; last = 0; made = 0 }

-- a report moves the work by the steps that it executed, each other command by its first effect, if it has one
abbrev pub MovesWork : Scenario → Command → Work → Work → Type 0
MovesWork sc Report old new = ReportMoves sc.step old new
MovesWork sc command old new = EditMoves (ShowsAt sc command) old new

-- and a rejected line leaves it as it was
abbrev pub LineMoves : Scenario → Result Command Fault → Work → Work → Type 0
LineMoves sc (Ok command) old new = MovesWork sc command old new
LineMoves sc (Err fault) old new = LeavesWork old new

-- an edit may make a trail short as its effect says, and no other line does; by whether the trail is short before and
-- after
abbrev pub MayShorten : Scenario → Result Command Fault → Bool → Bool → Type 0
MayShorten sc (Ok (Edit edit)) old new = ShortenedBy (row sc edit).effect old new
MayShorten sc outcome old new = new ≡ old

-- an accepted command of a session may make its trail short in the same way, and it moves the work in that way, unless
-- memory ran out or the trail is short after it
pub record Works (old new : Session) (command : Command) (result : Result Reply Fault) : Type 0 where
  pub whole : MayShorten (scenario_of old) (Ok command) (is_short (trail_of old)) (is_short (trail_of new))
  pub moves : (result ≡ Err Memory → ⊥) → is_short (trail_of new) ≡ false
      → MovesWork (scenario_of old) command (work_on (trail_of old)) (work_on (trail_of new))

-- and so does a line that is accepted as a command, or rejected
pub record WorksAs (old new : Session) (outcome : Result Command Fault) (result : Result Reply Fault) : Type 0 where
  pub whole : MayShorten (scenario_of old) outcome (is_short (trail_of old)) (is_short (trail_of new))
  pub moves : (result ≡ Err Memory → ⊥) → is_short (trail_of new) ≡ false
      → LineMoves (scenario_of old) outcome (work_on (trail_of old)) (work_on (trail_of new))

abbrev pub WorksLine : Session → Session → List ℕ → Result Reply Fault → Type 0
WorksLine old new line result = WorksAs old new (accepted (turn_of old) line) result
