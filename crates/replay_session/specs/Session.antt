-- The turn and the trail of a session, and what one line does to it.
use Rattle.std.specs.Prelude.{◌≡◌, ◌⊎◌, ℕ, List, min, true, Result, Ok, Err, IsOkAnd}
use Rattle.checkpoints.specs.Happenings.{happened_between}
use Rattle.checkpoints.specs.Searches.{Hits}
use Rattle.checkpoints.specs.Sides.{IsSides}
use Rattle.checkpoints.specs.Trails.{meter_of}
use Rattle.checkpoints.specs.declared.happenings.Happened.{Happened}
use Rattle.checkpoints.specs.declared.searches.Sought.{Sought}
use Rattle.checkpoints.specs.declared.sides.Sides.{Sides}
use Rattle.checkpoints.specs.declared.trail.Trail.{Trail}
use Rattle.run_values.specs.declared.span.Span.{Span}
use Rattle.replay_report.specs.Report.{AppendsReport}
use Rattle.scenario.specs.Edits.{row}
use Rattle.scenario.specs.Scenario.{Scenario, IsReportOf, first_state}
use Rattle.clean_reports.specs.Lines.{IsVerdictLine}
use Rattle.replay_session.specs.Turns.{Turn, accepted, applied_as, changed, passed}
use Rattle.replay_session.specs.declared.session.Session.{Session}
use Rattle.commands.specs.declared.fault.Fault.{Fault}
use Rattle.commands.specs.declared.fault.Fault.TheVariants.{Memory}
use Rattle.replay_session.specs.declared.reply.Reply.{Reply}
use Rattle.replay_session.specs.declared.reply.Reply.TheVariants.{Done as IsDone, Work, Report as Reported}
use Rattle.commands.specs.declared.command.Command.{Command}
use Rattle.commands.specs.declared.command.Command.TheVariants.{Report, Edit, Worked}

-- the turn of a session: its scenario, and the number of lines given
unfoldable pub turn_of : Session → Turn
turn_of session = record { scenario = session.scenario; lines = session.lines }

-- its scenario
abbrev pub scenario_of : Session → Scenario
scenario_of session = (turn_of session).scenario

-- the held machines of its run
unfoldable pub trail_of : Session → Trail
trail_of session = session.trail

-- the number of steps executed for its reports
unfoldable pub work_of : Session → ℕ
work_of session = meter_of session.trail

-- the steps of a scenario's run that do what is sought
abbrev pub Finds : Scenario → Sought → ℕ → Type 0
Finds sc sought = Hits sought (first_state sc) sc.setup sc.marks

-- a table says of each place of a range which sides of it the run has below the chosen step
abbrev pub IsSidesOf : Scenario → Span → List Sides → Type 0
IsSidesOf sc range table = IsSides (first_state sc) sc.setup sc.marks sc.step range table

-- what happens in the steps of a scenario's run from one on, below another and below the chosen one
abbrev pub happened_of : Scenario → ℕ → ℕ → List Happened
happened_of sc from end = happened_between (first_state sc) sc.setup sc.marks from (min end sc.step)

-- a text is the line of the verdict on a scenario's run up to the chosen step
abbrev pub IsVerdictOf : Scenario → List ℕ → Type 0
IsVerdictOf sc text = IsVerdictLine sc.image (first_state sc) sc.setup sc.marks sc.step text

-- memory may run out at a report, and at an edit whose row says so
abbrev pub TakesMemory : Scenario → Command → Type 0
TakesMemory sc Report = Unit {0}
TakesMemory sc (Edit edit) = (row sc edit).may_fail ≡ true
TakesMemory sc _ = ⊥

-- the reply to an accepted command, after this number of executed steps
abbrev pub reply_to : ℕ → Command → Reply
reply_to work Report = Reported
reply_to work Worked = Work work
reply_to work _ = IsDone

abbrev pub replied : ℕ → Result Command Fault → Result Reply Fault
replied work (Ok command) = Ok (reply_to work command)
replied work (Err fault) = Err fault

-- the report was appended, if the line asks for it, and otherwise nothing
abbrev pub AppendsFor : Scenario → Result Command Fault → List ℕ → List ℕ → Type 0
AppendsFor sc (Ok Report) old new = AppendsReport (IsReportOf sc) old new
AppendsFor sc _ old new = new ≡ old

-- a line that is accepted as a command, or rejected, was answered as the scenario says
pub record Answered (new : Session) (turn : Turn) (outcome : Result Command Fault) (result : Result Reply Fault)
    (out-old out-new : List ℕ) : Type 0 where
  pub replies : result ≡ replied (work_of new) outcome
  pub appends : AppendsFor turn.scenario outcome out-old out-new
  pub has : turn_of new ≡ applied_as turn outcome

-- or memory ran out, at a line that isn't rejected and may need it: the line counts, and nothing else changes
pub record Wanting (new : Session) (turn : Turn) (outcome : Result Command Fault) (result : Result Reply Fault)
    (out-old out-new : List ℕ) : Type 0 where
  pub replies : result ≡ Err Memory
  pub may : IsOkAnd outcome (TakesMemory turn.scenario)
  pub keeps : out-new ≡ out-old
  pub has : turn_of new ≡ passed turn turn.scenario

abbrev pub MeetsAs : Session → Turn → Result Command Fault → Result Reply Fault → List ℕ → List ℕ → Type 0
MeetsAs new turn outcome result out-old out-new =
    Answered new turn outcome result out-old out-new ⊎ Wanting new turn outcome result out-old out-new

abbrev pub Meets : Session → Turn → List ℕ → Result Reply Fault → List ℕ → List ℕ → Type 0
Meets new turn line result out-old out-new = MeetsAs new turn (accepted turn line) result out-old out-new

-- the same for an accepted command: it was carried out
pub record Done (new : Session) (turn : Turn) (command : Command) (result : Result Reply Fault)
    (out-old out-new : List ℕ) : Type 0 where
  pub replies : result ≡ Ok (reply_to (work_of new) command)
  pub appends : AppendsFor turn.scenario (Ok command) out-old out-new
  pub has : turn_of new ≡ record turn { scenario = changed turn.scenario command }

-- or memory ran out, and nothing changed
pub record Failed (new : Session) (turn : Turn) (command : Command) (result : Result Reply Fault)
    (out-old out-new : List ℕ) : Type 0 where
  pub replies : result ≡ Err Memory
  pub may : TakesMemory turn.scenario command
  pub keeps : out-new ≡ out-old
  pub has : turn_of new ≡ turn

abbrev pub Carried : Session → Turn → Command → Result Reply Fault → List ℕ → List ℕ → Type 0
Carried new turn command result out-old out-new =
    Done new turn command result out-old out-new ⊎ Failed new turn command result out-old out-new
